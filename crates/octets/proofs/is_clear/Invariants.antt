use Rattle.std.proofs.Common.{◌≡◌, take}
use lib.Dec.{eqb}
use Rattle.octets.specs.Test.{zeros}
use Rattle.octets.proofs.is_clear.Given as goal

abbrev pub invariant-loop-x : goal.invariant-loop-x
invariant-loop-x l = eqb l.bits 0 ≡ zeros (take l.x-index l.s)
