use Rattle.std.proofs.Common.{Ok, Err, refl, sym, ap, ◌∙◌, length, length-take-le, arith, rules}
use Rattle.std.proofs.lemmas.Result.{err_from_is_err_and}
use Rattle.octets.specs.Sizes.{longest_frame, longest_block}
use Rattle.call_spec.specs.Calls.{given, rooms, page_after}
use Rattle.endpoint.specs.Record.{decode}
use Rattle.endpoint_plan.proofs.Carries.{by_block, reservable}
use Rattle.link.proofs.Answers.{enough, reserved, part_long, block_short}
use Rattle.line_answer.specs.Line.{line_call}
use Rattle.line_answer.proofs.Lines.{asked_of}
use Rattle.line_answer.proofs.Plans.{planned, comes_so, called, sends, hands}
use Rattle.line_answer.proofs.Ends.{gives}
use Rattle.line_answer.proofs.ask.Goals as goal

pub plan_sound-requires : goal.plan_sound-requires
plan_sound-requires c = let k = asked_of c.args.rec.now c.args.page.now c.requires.0 in (k.long, k.is_sound)

pub returns-in_err-plan : goal.returns-in_err-plan
returns-in_err-plan c =
    let a = c.args in
    let k = asked_of a.rec.now a.page.now c.requires.0 in
    let p = err_from_is_err_and c.from_residual.result c.from_residual.ensures.1 in
    let w = planned a.rec.now a.page.now a.s.now c.requires.0 c.call_in-call.result (Err c.in_err-plan.field-0.0) c.in_err-plan.ensures in
    let o = given c.call_in-call.result a.s.now (rooms longest_frame longest_block) in
    rw (p.1, p.2) (sym (comes_so a.rec.now a.page.now a.s.now c.call_in-call.ensures) ∙ enough a.rec.now k.long a.page.now o ∙ w, (refl, (refl, refl)))

pub reserve-requires : goal.reserve-requires
reserve-requires c =
    let a = c.args in
    let o = given c.call_in-call.result a.s.now (rooms longest_frame longest_block) in
    reservable (decode a.rec.now) a.page.now o (planned a.rec.now a.page.now a.s.now c.requires.0 c.call_in-call.result (Ok c.in_ok-plan.plan) c.in_ok-plan.ensures)

-- what the other stores ask of the page is there once its own store is made
pub finish-a-requires : goal.finish-a-requires
finish-a-requires c =
    let a = c.args in
    let w = planned a.rec.now a.page.now a.s.now c.requires.0 c.call_in-call.result (Ok c.in_ok-plan.plan) c.in_ok-plan.ensures in
    ((asked_of a.rec.now a.page.now c.requires.0).long, (omega arith, (_, by_block c.cut_block-block.ensures w)))

pub block_part-handed-requires : goal.block_part-handed-requires
block_part-handed-requires c =
    let a = c.args in
    let w = planned a.rec.now a.page.now a.s.now c.requires.0 c.call_in-call.result (Ok c.in_ok-plan.plan) c.in_ok-plan.ensures in
    part_long (c.finish-a.ensures _ (by_block c.cut_block-block.ensures w))

-- the frame sent has room
pub slice_bounds-frame-end : goal.slice_bounds-frame-end
slice_bounds-frame-end c =
    let a = c.args in
    let g = called a.rec.now a.page.now a.s.now c.requires.0 c.call_in-call.ensures c.in_ok-plan.ensures c.cut_block-block.ensures c.finish-a.ensures in
    omega (arith, sends g (search rules))

pub slice_bounds-write_text-end : goal.slice_bounds-write_text-end
slice_bounds-write_text-end c =
    let a = c.args in
    let g = called a.rec.now a.page.now a.s.now c.requires.0 c.call_in-call.ensures c.in_ok-plan.ensures c.cut_block-block.ensures c.finish-a.ensures in
    sym (length-take-le _ _ (omega (arith, sends g (search rules))))

pub write_text-requires : goal.write_text-requires
write_text-requires c =
    let a = c.args in
    let g = called a.rec.now a.page.now a.s.now c.requires.0 c.call_in-call.ensures c.in_ok-plan.ensures c.cut_block-block.ensures c.finish-a.ensures in
    let b = hands c.call_in-call.ensures g c.block_part-handed.ensures in
    let f = sends g (search rules) in (
      c.requires.1.1,
      (
        omega (arith, ap length b, block_short a.rec.now a.page.now (line_call a.s.now)),
        omega (arith, f, length-take-le c.finish-a.result.sent c.finish-a.new.out (omega (arith, f))),
      ),
    )

pub returns : goal.returns
returns c =
    let a = c.args in
    let k = asked_of a.rec.now a.page.now c.requires.0 in
    let o = given c.call_in-call.result a.s.now (rooms longest_frame longest_block) in
    let w = planned a.rec.now a.page.now a.s.now c.requires.0 c.call_in-call.result (Ok c.in_ok-plan.plan) c.in_ok-plan.ensures in
    let g = called a.rec.now a.page.now a.s.now c.requires.0 c.call_in-call.ensures c.in_ok-plan.ensures c.cut_block-block.ensures c.finish-a.ensures in
    gives _ a.rec.now a.page.now c.cut_block-block.result.now a.out.now g
    (reserved a.rec.now k.long a.page.now o w c.reserve.ensures.0 ∙ ap (page_after a.page.now) (comes_so a.rec.now a.page.now a.s.now c.call_in-call.ensures))
    (hands c.call_in-call.ensures g c.block_part-handed.ensures) c.write_text.ensures
