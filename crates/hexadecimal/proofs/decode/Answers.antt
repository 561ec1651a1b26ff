use Rattle.std.proofs.Common.{arith, ◌≡◌, ◌+◌, ◌*◌, ◌/◌, ◌<◌, [], ◌∷◌, length, take, get_or}
use lib.Seq.{length-take-le}
use Rattle.octets.proofs.Octets.{put-none, front_more}
use Rattle.hexadecimal.specs.Line.{value, unhex}
use Rattle.hexadecimal.proofs.Digits.{unhex-more, length-unhex, pair_at, pair_digit}
use Rattle.hexadecimal.proofs.decode.Goals as goal

pub loop-i-init : goal.loop-i-init
unfolding unhex
loop-i-init c = put-none c.args.out.now 0

pub to_value-requires : goal.to_value-requires
to_value-requires c =
    rw c.as_chunks.ensures.front
    (pair_digit 2 (length c.args.line.now / 2) c.args.line.now c.loop-i.i _ [] (omega arith) (omega arith) (omega arith) c.requires.0)

pub to_value-requires-in-loop-i : goal.to_value-requires-in-loop-i
to_value-requires-in-loop-i c =
    rw c.as_chunks.ensures.front
    (pair_digit 2 (length c.args.line.now / 2) c.args.line.now c.loop-i.i _ [] (omega arith) (omega arith) (omega arith) c.requires.0)

pub loop-i-preserved : goal.loop-i-preserved
loop-i-preserved c =
    let l = c.args.line.now in
    let i = c.loop-i.i in
    let h : i < length l / 2 = omega arith in
    let e : 2 * i + 0 ≡ 2 * i = omega arith in
    let n : length (unhex (take (2 * i) l)) ≡ i = length-unhex i (take (2 * i) l) (length-take-le (2 * i) l (omega arith)) in
    rw (
      c.loop-i.invariant,
      c.to_value.ensures.0,
      c.to_value-in-loop-i.ensures.0,
      c.as_chunks.ensures.front,
      pair_at 2 (length l / 2) l i 0 [] h (omega arith),
      pair_at 2 (length l / 2) l i 1 [] h (omega arith),
      e,
      unhex-more l i (omega arith),
    )
    (front_more c.args.out.now (unhex (take (2 * i) l)) ((value (get_or l (2 * i) 0) * 16 + value (get_or l (2 * i + 1) 0)) ∷ []) i n (omega (arith, c.requires.1.1)))
