-- What the calls keep: an accepted call of a sound struct leaves a sound struct, which holds the endpoint that the step table
-- gives.
use mathlib.Core.Path.{subst}
use Rattle.protocol.specs.Limits.{LeavesSound, LeavesBounded}
use Rattle.protocol.proofs.Limits.{call_sound, call_bounded}
use Rattle.endpoint.specs.View.{view}
use Rattle.endpoint.specs.Sound.{sound}
use Rattle.endpoint.proofs.Sounds.{view-sound}
use Rattle.endpoint.proofs.Held.{held, pack-sound}
use Rattle.endpoint_plan.specs.Calls.{outcome_of}
use Rattle.endpoint_plan.proofs.Laws.{accepts}
use Rattle.endpoint_step.specs.Claim.{StructStaysSound}

-- what it leaves
pub leaves : StructStaysSound
unfolding outcome_of
leaves e long page c o x h =
    let a = accepts (sound e) page (view e) c o h in
    let v = view-sound e a.is_sound long in
    let s = subst LeavesSound a.performs (call_sound a.call (view e) v a.readable) in
    record {
      is_sound = s;
      record_sound = pack-sound _ s;
      holds = held _ s;
      bounded = λ b. subst LeavesBounded a.performs (call_bounded a.call (view e) v b a.readable);
    }
