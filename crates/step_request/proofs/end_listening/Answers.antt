use Rattle.std.proofs.Common.{refl, None}
use Rattle.octets.specs.Test.{first, when}
use Rattle.frame.specs.Frame.{end_listening}
use Rattle.protocol.specs.Endpoint.{closed}
use Rattle.protocol.specs.Table.{none}
use Rattle.protocol.specs.Requests.{refusal, request_questions, accept}
use Rattle.step_rules.specs.Internal.{holding}
use Rattle.step_plan.specs.Internal.{sent_by}
use Rattle.step_plan.proofs.Comes.{turns}
use Rattle.step_request.proofs.Requests.{allowed}
use Rattle.step_request.proofs.end_listening.Goals as goal

pub returns : goal.returns
unfolding refusal request_questions accept sent_by first when
returns c = λ b q h old w o lz.
    let n = c.args.n in
    turns n q h b old w _ lz c.told-held closed 0 none None (allowed (holding n q h) end_listening (rw c.if-n-ne-LISTENING.false refl)) c.turn.ensures
