use Rattle.std.proofs.Common.{sym, arith}
use Rattle.octets.proofs.Test.{eq_yes, eq_no}
use Rattle.line_io.specs.Place.{ready_line}
use Rattle.line_io.proofs.Place.ready.Goals as goal

pub returns-then-self-gt0 : goal.returns-then-self-gt0
unfolding ready_line
returns-then-self-gt0 c = sym (eq_no _ _ _ _ (omega arith))

pub returns-else-self-gt0 : goal.returns-else-self-gt0
unfolding ready_line
returns-else-self-gt0 c = sym (eq_yes _ _ _ _ (omega arith))
