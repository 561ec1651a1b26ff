use Rattle.std.proofs.Common.{◌≡◌, ◌*◌, take}
use Rattle.octets.specs.Octets.{put}
use Rattle.hexadecimal.specs.Line.{unhex}
use Rattle.hexadecimal.proofs.decode.Given as goal

abbrev pub invariant-loop-i : goal.invariant-loop-i
invariant-loop-i l = l.out ≡ put l.initial.out 0 (unhex (take (2 * l.i) l.line))
