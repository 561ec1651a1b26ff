use Rattle.std.proofs.Common.{rules, ◌≡◌, length, sym, arith, length-take-le}
use Rattle.octets.specs.Sizes.{longest_frame, longest_block}
use Rattle.call_spec.specs.Calls.{given, rooms}
use Rattle.endpoint.proofs.Packs.{Long}
use Rattle.host_demo.proofs.Fits.{frame_fits, block-there, block_short}
use Rattle.host_demo.proofs.perform.Goals as goal

pub block_part-block-requires : goal.block_part-block-requires
block_part-block-requires c =
    rw c.cut_block.ensures (block-there c.args.e (given c.args.call c.args.s.now (rooms longest_frame longest_block)) c.lend-a.ensures)

-- the frame sent has room
pub slice_bounds-frame-end : goal.slice_bounds-frame-end
slice_bounds-frame-end c =
    let l : length c.lend-a.new.out ≡ longest_frame = search rules in
    omega (arith, l, frame_fits c.args.e (given c.args.call c.args.s.now (rooms longest_frame longest_block)) c.lend-a.ensures l)

pub slice_bounds-tell-end : goal.slice_bounds-tell-end
slice_bounds-tell-end c =
    let l : length c.lend-a.new.out ≡ longest_frame = search rules in
    sym (length-take-le _ _ (omega (arith, l, frame_fits c.args.e (given c.args.call c.args.s.now (rooms longest_frame longest_block)) c.lend-a.ensures l)))

-- its block is no longer than one may be
pub tell-requires : goal.tell-requires
tell-requires c =
    let a = given c.args.call c.args.s.now (rooms longest_frame longest_block) in
    let l : length c.lend-a.new.out ≡ longest_frame = search rules in
    let f = frame_fits c.args.e a c.lend-a.ensures l in
    let g : Long c.args.e = record { lengths = search rules; blocks = search rules; held_lengths = search rules; held_blocks = search rules } in (
      rw (c.block_part-block.ensures, c.cut_block.ensures) (block_short c.args.e a c.lend-a.ensures g),
      omega (arith, l, f, length-take-le c.lend-a.result.sent c.lend-a.new.out (omega (arith, l, f))),
    )
