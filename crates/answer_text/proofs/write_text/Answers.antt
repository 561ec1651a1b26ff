use Rattle.std.proofs.Common.{arith, rules}
use Rattle.octets.proofs.Buffers.{length_rest}
use Rattle.answer_text.proofs.Text.{length_line, line_short, line_room, text-none, text-some}
use Rattle.answer_text.proofs.write_text.Goals as goal

pub write_answer-m-requires : goal.write_answer-m-requires
write_answer-m-requires c = (c.requires.1.0, omega (arith, c.requires.0, line_short c.args.t c.args.block.now c.requires.1.0))

pub returns-then-is_empty : goal.returns-then-is_empty
returns-then-is_empty c = text-none c.args.t c.args.block.now c.args.sent.now c.args.out.now (search rules) c.write_answer-m.ensures

pub slice_bounds-write_line-count : goal.slice_bounds-write_line-count
slice_bounds-write_line-count c = let m = line_room c.args.t _ c.args.out.now c.requires.1.0 c.write_answer-m.ensures in omega (arith, c.requires.0)

pub slice_bounds-write_line-start : goal.slice_bounds-write_line-start
slice_bounds-write_line-start c = let m = line_room c.args.t _ c.args.out.now c.requires.1.0 c.write_answer-m.ensures in omega (arith, c.requires.0)

pub write_line-k-requires : goal.write_line-k-requires
write_line-k-requires c =
    let m = line_room c.args.t _ c.args.out.now c.requires.1.0 c.write_answer-m.ensures in
    omega (arith, length_rest c.write_answer-m.new.out c.write_answer-m.result, c.requires)

pub overflow_add-result : goal.overflow_add-result
overflow_add-result c =
    let m = line_room c.args.t _ c.args.out.now c.requires.1.0 c.write_answer-m.ensures in
    omega (arith, c.write_line-k.ensures.count, length_line c.args.sent.now)

pub returns : goal.returns
returns c =
    let m = line_room c.args.t _ c.args.out.now c.requires.1.0 c.write_answer-m.ensures in
    text-some c.args.t c.args.block.now c.args.sent.now c.args.out.now (search rules) c.write_answer-m.ensures (omega (arith, c.requires.0))
    c.write_line-k.ensures
