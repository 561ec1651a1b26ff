use Rattle.std.proofs.Common.{sym}
use Rattle.std.proofs.lemmas.Result.{err_from_is_err_and}
use Rattle.call_spec.specs.Calls.{given, rooms}
use Rattle.endpoint.specs.Internal.{whole}
use Rattle.endpoint_plan.proofs.Carries.{long, declined, can-plan, plans}
use Rattle.endpoint_plan.proofs.plan_call.Goals as goal

pub returns-in_err-ask : goal.returns-in_err-ask
returns-in_err-ask c =
    let a = c.args in
    let p = err_from_is_err_and c.from_residual.result c.from_residual.ensures.1 in
    rw (p.1, p.2) (declined (whole a.parts) (long a.parts) a.page.now (given a.call a.s.now (rooms a.room.frame a.room.block)) c.in_err-ask.field-0.0 c.in_err-ask.ensures)

pub plan-requires : goal.plan-requires
plan-requires c =
    let a = c.args in
    can-plan (whole a.parts) (long a.parts) a.page.now (given a.call a.s.now (rooms a.room.frame a.room.block)) (sym c.in_ok-ask.ensures) c.read.result c.read.ensures

pub returns : goal.returns
returns c =
    let a = c.args in
    plans (whole a.parts) (long a.parts) a.page.now (given a.call a.s.now (rooms a.room.frame a.room.block)) (sym c.in_ok-ask.ensures) c.read.result c.read.ensures c.plan.result
    c.plan.ensures
