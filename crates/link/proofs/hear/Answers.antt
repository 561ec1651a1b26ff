use Rattle.std.proofs.Common.{length}
use Rattle.call_spec.specs.declared.Call.TheVariants.{Receive}
use Rattle.call_spec.specs.Calls.{rooms}
use Rattle.endpoint.specs.Record.{decode}
use Rattle.endpoint_plan.proofs.Carries.{from_block}
use Rattle.link.specs.Lent.{lent_call}
use Rattle.link.proofs.Answers.{turned_down, too_short, received-by}
use Rattle.link.proofs.hear.Goals as goal

pub returns-then-rec-lt-RECORD_SIZE : goal.returns-then-rec-lt-RECORD_SIZE
returns-then-rec-lt-RECORD_SIZE c =
    let a = c.args in
    let o = too_short a.rec.now a.page.now (lent_call Receive a.s.now a.out.now a.up.now) c.if-rec-lt-RECORD_SIZE.true in
    turned_down o Receive a.rec.now a.block.now a.out.now a.up.now c.decline.ensures

pub finish-requires : goal.finish-requires
finish-requires c =
    let a = c.args in
    let r = rooms (length a.out.now) (length a.up.now) in
    let q = c.plan_call-plan.result in
    let w = c.plan_call-plan.ensures in
    (w.0, (received-by a.rec.now a.page.now a.s.now r q w, (_, from_block Receive r (decode a.rec.now) _ q c.requires w.1)))

pub returns : goal.returns
returns c =
    let a = c.args in
    c.finish.ensures _
    (from_block Receive (rooms (length a.out.now) (length a.up.now)) (decode a.rec.now) _ c.plan_call-plan.result c.requires c.plan_call-plan.ensures.1)
