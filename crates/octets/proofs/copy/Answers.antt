use Rattle.std.proofs.Common.{arith}
use Rattle.octets.proofs.Parts.{part_back}
use Rattle.octets.proofs.copy.Goals as goal

pub returns : goal.returns
returns c =
    let a = c.args in
    rw c.copy_from_slice.ensures.after (part_back a.d.now a.s.now a.at _ (omega arith))
