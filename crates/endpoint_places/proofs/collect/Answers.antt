use Rattle.std.proofs.Common.{◌∙◌, ◌≢◌, refl, ap, length, arith}
use Rattle.frame.specs.Frame.{Block}
use Rattle.octets.specs.Octets.{put}
use Rattle.octets.proofs.Octets.{put-none}
use Rattle.octets.proofs.Test.{eq_yes, eq_no}
use Rattle.step_plan.specs.declared.Notice.{Notice}
use Rattle.step_plan.specs.declared.Notice.TheVariants.{Nothing, Connected, Rejected, ClosedByPartner, CloseFinished, HandedUp}
use Rattle.step_plan.specs.Internal.{told_notice, block_by}
use Rattle.endpoint_places.specs.Internal.{handed_to}
use Rattle.endpoint_places.proofs.collect.Goals as goal

-- no other notice has the number 5
other : (n : Notice) → n ≢ HandedUp → told_notice n ≢ 5
other Nothing h e = omega arith
other Connected h e = omega arith
other Rejected h e = omega arith
other ClosedByPartner h e = omega arith
other CloseFinished h e = omega arith
other HandedUp h e = h refl

pub returns-in-HandedUp : goal.returns-in-HandedUp
unfolding block_by handed_to
returns-in-HandedUp c =
    let b = c.first-block.ensures.block in
    rw (c.in-HandedUp.is, eq_yes _ _ _ _ refl) (record { count = ap (λ (s : Block). length s) b; octets = c.copy.ensures ∙ ap (λ (s : Block). put c.args.up.now 0 s) b })

pub returns-in_default : goal.returns-in_default
unfolding block_by handed_to
returns-in_default c = rw (eq_no _ _ _ _ (other c.args.notice c.in_default.not-HandedUp)) (record { count = refl; octets = put-none c.args.up.now 0 })
