use Rattle.std.proofs.Common.{refl, sym, ap, ◌∙◌}
use Rattle.octets.specs.Test.{first, ok}
use Rattle.frame.specs.Frame.{timer}
use Rattle.protocol.specs.Table.{none, Sent}
use Rattle.protocol.specs.Requests.{refusal, request_questions, accept}
use Rattle.step_rules.specs.Internal.{holding}
use Rattle.step_plan.proofs.Comes.{keeps}
use Rattle.step_request.proofs.Requests.{allowed}
use Rattle.step_request.proofs.timer.Goals as goal

pub returns : goal.returns
unfolding refusal request_questions accept first
returns c = λ z b q h old w o lz.
    let a = holding c.args.n q h in
    keeps c.args.n q h b old w none c.resent.result
    (allowed a timer refl ∙ ap (λ (x : Sent). ok (record { endpoint = a; notice = none; sent = x })) (sym (c.resent.ensures q h old w o))) c.keep.ensures
