use Rattle.std.proofs.Common.{◌≡◌, refl, ap, ◌∙◌, Some, None}
use mathlib.Core.Logic.{◌≢◌, ◌⊎◌, inl, inr}
use Rattle.octets.specs.Test.{first, if_eq, when, ok}
use Rattle.octets.proofs.Test.{eq_yes, eq_no}
use Rattle.frame.specs.Frame.{close}
use Rattle.frame.specs.Answer.{header_of}
use Rattle.frame.specs.declared.Kind.TheVariants.{Dr}
use Rattle.protocol.specs.Endpoint.{closed, active_opening, established, closing, Endpoint}
use Rattle.protocol.specs.Table.{none, close_finished}
use Rattle.protocol.specs.Requests.{refusal, request_questions, hung_up, accept}
use Rattle.step_rules.specs.Internal.{holding}
use Rattle.step_plan.specs.Internal.{sent_by}
use Rattle.step_plan.proofs.Comes.{turns}
use Rattle.step_request.proofs.Requests.{allowed}
use Rattle.step_request.proofs.close.Goals as goal

-- question 8 of an end that calls or is open
closable : (a : Endpoint) → ((a.state ≢ active_opening) × (a.state ≡ established)) ⊎ (a.state ≡ active_opening) → 0 ≡ refusal close a
unfolding refusal request_questions first when
closable a (inl h) = rw h.1 refl
closable a (inr h) = rw h refl

pub returns-then-n-eq0 : goal.returns-then-n-eq0
unfolding accept hung_up sent_by
returns-then-n-eq0 c = λ b q h old w o lz.
    let n = c.args.n in
    turns n q h b old w _ lz c.told-held closed 0 close_finished None
    (allowed (holding n q h) close (closable (holding n q h) c.else-n-ne-ACTIVE_OPENING.either) ∙ ap ok (eq_yes _ _ _ _ c.if-n-eq0.true)) c.turn.ensures

pub returns : goal.returns
unfolding accept hung_up sent_by if_eq when
returns c = λ b q h old w o lz.
    let n = c.args.n in
    turns n q h b old w _ lz c.told-held closing n.remote none (Some (header_of Dr n.local n.remote 0))
    (allowed (holding n q h) close (closable (holding n q h) c.else-n-ne-ACTIVE_OPENING.either) ∙ ap ok (eq_no _ _ _ _ c.if-n-eq0.false))
    (rw c.say-reply.ensures at c.turn-2.ensures)
