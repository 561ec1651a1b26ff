use Rattle.std.proofs.Common.{arith, length}
use Rattle.call_spec.specs.Calls.{rooms}
use Rattle.endpoint.specs.Record.{decode}
use Rattle.endpoint_plan.proofs.Carries.{from_block}
use Rattle.frame.specs.Read.{cut_block}
use Rattle.link.specs.Lent.{lent_call}
use Rattle.link.proofs.Answers.{turned_down, too_short, page_unchanged, can-reserve, reserved-by, of_block}
use Rattle.link.proofs.perform.Goals as goal

pub returns-then-rec-lt-RECORD_SIZE : goal.returns-then-rec-lt-RECORD_SIZE
returns-then-rec-lt-RECORD_SIZE c =
    let a = c.args in
    let o = too_short a.rec.now a.page.now (lent_call a.call a.s.now a.out.now a.up.now) c.if-rec-lt-RECORD_SIZE.true in
    (turned_down o a.call a.rec.now (cut_block a.s.now) a.out.now a.up.now c.decline.ensures, page_unchanged o)

pub reserve-requires : goal.reserve-requires
reserve-requires c =
    let a = c.args in
    can-reserve a.rec.now a.page.now a.s.now a.call (rooms (length a.out.now) (length a.up.now)) c.plan_call-plan.result c.plan_call-plan.ensures

-- what the other stores ask of the page is there once its own store is made
pub finish-requires : goal.finish-requires
finish-requires c =
    let a = c.args in
    let w = c.plan_call-plan.ensures in
    (w.0, (omega arith, (_, from_block a.call (rooms (length a.out.now) (length a.up.now)) (decode a.rec.now) _ c.plan_call-plan.result c.cut_block.ensures w.1)))

pub returns : goal.returns
returns c =
    let a = c.args in
    let r = rooms (length a.out.now) (length a.up.now) in
    let b = c.cut_block.ensures in
    let q = c.plan_call-plan.result in
    let w = c.plan_call-plan.ensures in (
      of_block b (c.finish.ensures _ (from_block a.call r (decode a.rec.now) _ q b w.1)),
      reserved-by a.rec.now a.page.now a.s.now a.call r q w c.reserve.ensures.0,
    )
