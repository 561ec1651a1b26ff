use Rattle.std.proofs.Common.{arith}
use Rattle.hexadecimal.proofs.Digits.{known}
use Rattle.hexadecimal.proofs.to_value.Goals as goal

pub returns : goal.returns
returns c =
    let k = known c.args.c c.requires in
    (k.halves, omega (arith, k.halves, k.below))
