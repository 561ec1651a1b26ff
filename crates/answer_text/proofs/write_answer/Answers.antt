use Rattle.std.proofs.Common.{length, refl, sym, ap, replicate, length-take-le, arith}
use Rattle.octets.proofs.Buffers.{taken}
use Rattle.answer_text.specs.Text.{answer_octets, longest_answer}
use Rattle.answer_text.proofs.Text.{length_line, told_room}
use Rattle.answer_text.proofs.write_answer.Goals as goal

pub slice_bounds-octets-end : goal.slice_bounds-octets-end
slice_bounds-octets-end c = let r = told_room c.args.t c.args.block.now (replicate longest_answer 0) c.requires.0 refl c.tell-n.ensures in omega arith

pub slice_bounds-write_line-end : goal.slice_bounds-write_line-end
slice_bounds-write_line-end c =
    let r = told_room c.args.t c.args.block.now (replicate longest_answer 0) c.requires.0 refl c.tell-n.ensures in
    sym (length-take-le _ _ (omega arith))

-- what was told, as octets
pub write_line-requires : goal.write_line-requires
write_line-requires c =
    let o = taken (replicate longest_answer 0) _ c.tell-n.ensures.buffer c.tell-n.ensures.count in
    omega (arith, ap length o, length_line (answer_octets c.args.t c.args.block.now), c.requires.1)

pub returns : goal.returns
returns c =
    let o = taken (replicate longest_answer 0) _ c.tell-n.ensures.buffer c.tell-n.ensures.count in
    rw o at c.write_line.ensures
