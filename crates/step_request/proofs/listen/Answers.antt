use Rattle.std.proofs.Common.{None}
use Rattle.frame.specs.Frame.{listen}
use Rattle.protocol.specs.Endpoint.{listening}
use Rattle.protocol.specs.Requests.{refusal, request_questions, accept}
use Rattle.step_rules.specs.Internal.{holding}
use Rattle.step_plan.specs.Internal.{sent_by}
use Rattle.step_plan.proofs.Comes.{begins}
use Rattle.step_request.proofs.Requests.{allowed}
use Rattle.step_request.proofs.listen.Goals as goal

pub returns : goal.returns
unfolding refusal request_questions accept sent_by
returns c = λ b q h old w o lz.
    let n = c.args.n in
    begins n q h b old w _ lz c.told-held listening None (allowed (holding n q h) listen c.in_ok-admit.ensures) c.begin.ensures
