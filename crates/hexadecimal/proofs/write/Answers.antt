use Rattle.std.proofs.Common.{arith, ℕ, suc, ◌≡◌, ◌+◌, ◌*◌, ◌/◌, ◌%◌, ◌∙◌, ap, [], ◌∷◌, length, take, get_or}
use lib.Seq.{length-take-le}
use Rattle.octets.proofs.Octets.{put-none, front_more}
use Rattle.hexadecimal.specs.Line.{digit, hex}
use Rattle.hexadecimal.proofs.Digits.{hex-more, length-hex}
use Rattle.hexadecimal.proofs.write.Goals as goal

pub loop-i-init : goal.loop-i-init
unfolding hex
loop-i-init c = put-none c.args.out.now 0

pub loop-i-preserved : goal.loop-i-preserved
loop-i-preserved c =
    let s = c.args.s.now in
    let i = c.loop-i.i in
    let t : length (take i s) ≡ i = length-take-le i s (omega arith) in
    let n : length (hex (take i s)) ≡ 2 * i = length-hex (take i s) ∙ ap (λ (k : ℕ). 2 * k) t in
    let e : 2 * i + 1 ≡ suc (2 * i) = omega arith in
    rw (c.loop-i.invariant, c.to_digits.ensures, e, hex-more s i (omega arith))
    (front_more c.args.out.now (hex (take i s)) (digit (get_or s i 0 / 16) ∷ digit (get_or s i 0 % 16) ∷ []) (2 * i) n (omega arith))
