use Rattle.std.proofs.Common.{rules, arith, ◌≡◌, ◌∙◌}
use Rattle.std.specs.Int.{w32, to_be_bytes}
use Rattle.octets.specs.Octets.{octets_of}
use Rattle.octets.proofs.Octets.{four_octets, length_octets}
use Rattle.octets.proofs.Parts.{part_back}
use Rattle.octets.proofs.store32.Goals as goal

pub returns : goal.returns
returns c =
    let a = c.args in
    let stored : c.copy_from_slice.new.self ≡ to_be_bytes w32 a.x = search rules in
    rw (stored ∙ four_octets a.x) (part_back a.d.now (octets_of 4 a.x) a.at _ (omega (arith, length_octets 4 a.x)))
