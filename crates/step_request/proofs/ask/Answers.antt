use Rattle.std.proofs.Common.{[], ◌∷◌, arith}
use Rattle.frame.specs.Answer.{request_of}
use Rattle.protocol.specs.Endpoint.{sized}
use Rattle.protocol.proofs.Sound.{sized-at}
use Rattle.step_request.proofs.ask.Goals as goal

pub returns-in-Send : goal.returns-in-Send
unfolding request_of sized
returns-in-Send c = λ b r.
    let z = sized-at 0 (b ∷ []) (rw c.in-Send.is at r) (omega arith) in
    rw c.in-Send.is (c.send.ensures _ b z.0 z.1)

pub returns-in-Timer : goal.returns-in-Timer
unfolding request_of
returns-in-Timer c = λ b _. rw c.in-Timer.is (c.timer.ensures _ b)
