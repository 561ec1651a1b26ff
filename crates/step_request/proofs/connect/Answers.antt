use Rattle.std.proofs.Common.{◌+◌, Some}
use Rattle.octets.specs.Test.{if_eq, when}
use Rattle.frame.specs.Frame.{connect}
use Rattle.frame.specs.Answer.{header_of}
use Rattle.frame.specs.declared.Kind.TheVariants.{Crao}
use Rattle.protocol.specs.Endpoint.{active_opening}
use Rattle.protocol.specs.Requests.{refusal, request_questions, accept}
use Rattle.step_rules.specs.Internal.{holding}
use Rattle.step_plan.specs.Internal.{sent_by}
use Rattle.step_plan.proofs.Comes.{begins}
use Rattle.step_request.proofs.Requests.{allowed}
use Rattle.step_request.proofs.connect.Goals as goal

pub returns : goal.returns
unfolding refusal request_questions accept sent_by if_eq when
returns c = λ b q h old w o lz.
    let n = c.args.n in
    begins n q h b old w _ lz c.told-held active_opening (Some (header_of Crao (n.local + 1) 0 0)) (allowed (holding n q h) connect c.in_ok-admit.ensures)
    (rw c.say-call.ensures at c.begin.ensures)
