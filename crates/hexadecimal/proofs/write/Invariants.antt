use Rattle.std.proofs.Common.{◌≡◌, take}
use Rattle.octets.specs.Octets.{put}
use Rattle.hexadecimal.specs.Line.{hex}
use Rattle.hexadecimal.proofs.write.Given as goal

abbrev pub invariant-loop-i : goal.invariant-loop-i
invariant-loop-i l = l.out ≡ put l.initial.out 0 (hex (take l.i l.s))
