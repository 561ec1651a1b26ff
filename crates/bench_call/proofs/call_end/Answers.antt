use Rattle.std.proofs.Common.{Ok, Err, arith, sym, ◌∙◌, ap}
use Rattle.frame.specs.Read.{cut_block}
use Rattle.call_spec.specs.Calls.{page_after}
use Rattle.call_spec.specs.Claim.{lent}
use Rattle.endpoint.specs.Record.{decode}
use Rattle.endpoint_plan.proofs.Carries.{by_block, reservable}
use Rattle.link.specs.Lent.{lent_call}
use Rattle.link.proofs.Answers.{turned_down, page_unchanged, reserved, called_by}
use Rattle.bench_call.proofs.Moves.{plans, no-plan, full, left}
use Rattle.bench_call.proofs.call_end.Goals as goal

pub returns-in-Err : goal.returns-in-Err
returns-in-Err c =
    let a = c.args in
    let l = lent a.rec.now a.page.now in
    let call = lent_call a.call a.s.now a.out.now a.up.now in
    let plan = plans l a.s.now a.out.now a.up.now a.call (Err c.in-Err.refusal) c.requires c.in-Err.ensures in
    let o = no-plan l c.requires.0.0.0 a.count call c.in-Err.refusal plan in
    (turned_down o a.call a.rec.now (cut_block a.s.now) a.out.now a.up.now c.decline.ensures, page_unchanged o)

pub returns-then-not-has_place : goal.returns-then-not-has_place
returns-then-not-has_place c =
    let a = c.args in
    let l = lent a.rec.now a.page.now in
    let call = lent_call a.call a.s.now a.out.now a.up.now in
    let plan = plans l a.s.now a.out.now a.up.now a.call (Ok c.in-Ok.p) c.requires c.in-Ok.ensures in
    let o = full l c.requires.0.0.0 a.count call plan (sym c.has_place.ensures ∙ c.if-not-has_place.true) in
    (turned_down o a.call a.rec.now (cut_block a.s.now) a.out.now a.up.now c.decline-then-not-has_place.ensures, page_unchanged o)

pub reserve-requires : goal.reserve-requires
reserve-requires c =
    let a = c.args in
    let l = lent a.rec.now a.page.now in
    let call = lent_call a.call a.s.now a.out.now a.up.now in
    let plan = plans l a.s.now a.out.now a.up.now a.call (Ok c.in-Ok.p) c.requires c.in-Ok.ensures in
    reservable (decode a.rec.now) a.page.now call plan

-- what the other stores ask of the page is there once its own store is made
pub finish-requires : goal.finish-requires
finish-requires c =
    let a = c.args in
    let l = lent a.rec.now a.page.now in
    let call = lent_call a.call a.s.now a.out.now a.up.now in
    let plan = plans l a.s.now a.out.now a.up.now a.call (Ok c.in-Ok.p) c.requires c.in-Ok.ensures in
    (c.requires.0.0.0, (omega arith, (_, by_block c.cut_block.ensures plan)))

pub returns-else-not-has_place : goal.returns-else-not-has_place
returns-else-not-has_place c =
    let a = c.args in
    let l = lent a.rec.now a.page.now in
    let call = lent_call a.call a.s.now a.out.now a.up.now in
    let plan = plans l a.s.now a.out.now a.up.now a.call (Ok c.in-Ok.p) c.requires c.in-Ok.ensures in
    let o = left l c.requires.0.0.0 a.count call plan (sym c.has_place.ensures ∙ c.if-not-has_place.false) in
    let k = called_by a.rec.now c.requires.0.0.0 a.page.now call c.cut_block.ensures (c.finish.ensures _ (by_block c.cut_block.ensures plan)) in
    (rw o k, reserved a.rec.now c.requires.0.0.0 a.page.now call plan c.reserve.ensures.0 ∙ ap (page_after a.page.now) (sym o))
