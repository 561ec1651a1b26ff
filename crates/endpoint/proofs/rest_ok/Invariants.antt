use Rattle.std.proofs.Common.{◌≡◌, ◌+◌, ◌-◌, take, drop}
use Rattle.octets.specs.Test.{zeros}
use Rattle.endpoint.proofs.rest_ok.Given as goal

abbrev pub invariant-loop-x : goal.invariant-loop-x
invariant-loop-x l = record { counted : l.j ≡ l.x-index; zeros_so_far : l.ok ≡ zeros (take (l.x-index - l.n) (drop (l.at + l.n) l.blocks)) }
