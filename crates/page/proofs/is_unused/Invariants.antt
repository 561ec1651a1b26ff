use Rattle.std.proofs.Common.{◌≡◌, ◌≤◌, eqb, take}
use Rattle.page.specs.Page.{unused, only}
use Rattle.page.proofs.is_unused.Given as goal

abbrev pub invariant-loop-x : goal.invariant-loop-x
invariant-loop-x l = (l.bits ≤ unused) × (eqb l.bits unused ≡ only unused (take l.x-index l.s))
