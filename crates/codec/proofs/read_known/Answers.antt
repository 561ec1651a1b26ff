use mathlib.Core.Path.{sym, ◌∙◌}
use Rattle.octets.specs.Test.{when, if_eq, mapped}
use Rattle.octets.proofs.Test.{eq_no}
use Rattle.frame.specs.Read.{cut_block}
use Rattle.codec.specs.Calls.{read_known}
use Rattle.codec.proofs.Told.{of_frame, of_request}
use native.Mathlib.Omega.{arith}
use Rattle.codec.proofs.read_known.Goals as goal

pub returns-in-1 : goal.returns-in-1
unfolding read_known if_eq when
returns-in-1 c = rw c.in-1.is (of_frame (cut_block c.args.s.now) c.read_frame.result c.map.result c.map.ensures.cases c.read_frame.ensures)

pub returns-in-2 : goal.returns-in-2
unfolding read_known if_eq when
returns-in-2 c = rw c.in-2.is (of_request (cut_block c.args.s.now) c.read_request.result c.map-in-2.result c.map-in-2.ensures.cases c.read_request.ensures)

pub returns-in-3 : goal.returns-in-3
unfolding read_known if_eq when
returns-in-3 c = rw c.in-3.is c.read_input.ensures

pub returns-in_default : goal.returns-in_default
unfolding read_known mapped
returns-in_default c =
    let k = c.args.known in
    sym (eq_no k 1 _ _ (λ e. omega arith) ∙ eq_no k 2 _ _ (λ e. omega arith) ∙ eq_no k 3 _ _ (λ e. omega arith))
