use Rattle.std.proofs.Common.{◌-◌, refl, arith}
use lib.ListN.{drop_of_length-le}
use Rattle.octets.specs.Sizes.{last_number}
use Rattle.octets.specs.Test.{zeros}
use Rattle.endpoint.proofs.held_numbers_ok.Goals as goal

-- all eight places have a number that is left
pub returns-then-left-ge-HELD_SIZE : goal.returns-then-left-ge-HELD_SIZE
unfolding zeros
returns-then-left-ge-HELD_SIZE c =
    let none = drop_of_length-le c.args.lengths.now {i = last_number - c.args.delivered} (omega arith) in
    rw none refl
