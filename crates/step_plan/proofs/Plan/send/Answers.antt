use Rattle.std.proofs.Common.{refl}
use Rattle.octets.proofs.Octets.{put-none}
use Rattle.call_spec.specs.Calls.{wire}
use Rattle.step_plan.specs.Internal.{sent_by}
use Rattle.step_plan.proofs.Plan.send.Goals as goal

pub returns-in-None : goal.returns-in-None
unfolding sent_by wire
returns-in-None c = rw c.in-None.is (record { count = refl; octets = put-none c.args.out.now 0 })

pub returns-in-Some : goal.returns-in-Some
unfolding sent_by wire
returns-in-Some c =
    rw (c.in-Some.is, ← c.block_out.ensures) (record { count = c.write.ensures.count; octets = c.write.ensures.octets })
