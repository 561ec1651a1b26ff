use Rattle.std.proofs.Common.{sym}
use Rattle.endpoint.specs.Internal.{whole}
use Rattle.endpoint_plan.proofs.Carries.{long, plannable, plans_any}
use Rattle.link.proofs.plan_sound.Goals as goal

pub plan-requires : goal.plan-requires
plan-requires c =
    let p = c.load-parts in
    let m = c.read-message in
    plannable (whole p.result) (long p.result) (rw (sym p.ensures) at c.requires.1) c.args.call c.args.s.now m.result m.ensures

pub returns : goal.returns
returns c =
    let p = c.load-parts in
    let m = c.read-message in
    rw (sym p.ensures)
    (plans_any (whole p.result) (long p.result) (rw (sym p.ensures) at c.requires.1) c.args.call c.args.s.now m.result m.ensures c.plan.result c.plan.ensures)
