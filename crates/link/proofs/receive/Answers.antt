use Rattle.std.proofs.Common.{sym}
use Rattle.call_spec.specs.Answers.{block_part}
use Rattle.link.proofs.Answers.{received_same, of_block, part_long}
use Rattle.link.proofs.receive.Goals as goal

pub slice_bounds-result-end : goal.slice_bounds-result-end
unfolding block_part
slice_bounds-result-end c = sym (part_long c.hear-a.ensures)

pub returns : goal.returns
unfolding block_part
returns c =
    let r = c.hear-a.ensures in
    (of_block c.cut_block-block.ensures (received_same r), r.block)
