use Rattle.std.proofs.Common.{rules, ◌≡◌, length, sym, arith, length-take-le}
use Rattle.octets.proofs.Buffers.{put_fits}
use Rattle.answer_text.specs.Text.{answer_room}
use Rattle.host_demo.proofs.tell.Goals as goal

-- the text has room
pub slice_bounds-text-end : goal.slice_bounds-text-end
slice_bounds-text-end c =
    let e = c.write_text-n.ensures in
    let l : length c.write_text-n.new.out ≡ answer_room = search rules in
    omega (arith, e.count, l, put_fits _ _ e.buffer l)

pub slice_bounds-write_all-end : goal.slice_bounds-write_all-end
slice_bounds-write_all-end c =
    let e = c.write_text-n.ensures in
    let l : length c.write_text-n.new.out ≡ answer_room = search rules in
    sym (length-take-le _ _ (omega (arith, e.count, l, put_fits _ _ e.buffer l)))
