use Rattle.std.proofs.Common.{arith, ℕ, ◌≡◌, ◌+◌, ◌*◌, ◌/◌, ◌%◌, ◌<◌, ◌∙◌}
use Rattle.hexadecimal.proofs.Digits.{digit_sum, two_digits}
use Rattle.hexadecimal.proofs.to_digits.Goals as goal

-- m is six more in both halves, which tells which of them are letters
letters : (h l : ℕ) → h < 16 → l < 16 → let m = h + l * 256 + 1542 in (m / 16 % 2 ≡ (h + 6) / 16) × (m / 4096 ≡ (l + 6) / 16)
letters h l a b =
    let m = h + l * 256 + 1542 in
    let n : m / 16 ≡ 16 * l + 96 + (h + 6) / 16 = omega arith in
    (rw n (omega arith), omega arith)

pub returns : goal.returns
returns c =
    let h = c.args.b / 16 in
    let l = c.args.b % 16 in
    let a : h < 16 = omega arith in
    let b : l < 16 = omega arith in
    rw c.from-octet.ensures at c.to_le_bytes.ensures
    ∙ two_digits h l a b (rw (digit_sum h a, digit_sum l b) (omega (arith, letters h l a b)))
