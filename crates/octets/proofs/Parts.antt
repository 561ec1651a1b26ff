-- A part of a buffer: where it stands in lists one after the other, what it comes back as when it is lent, and what a write leaves.
use Prim.Native.Nat.{ℕ, ◌+◌, ◌-◌, ◌≤◌}
use mathlib.Core.Path.{◌≡◌, refl, sym, ◌∙◌}
use mathlib.Core.List.{List, ◌++◌, append_assoc}
use native.Mathlib.Omega.{arith}
use lib.ListN.{length, take, drop, length-append, length-drop, take-append-drop}
use lib.Seq.{length-take-le, take-append-le, drop-append-le, take_at, drop_at, drop-drop}
use Rattle.octets.specs.Octets.{put}

-- in the first of two lists, and between two
pub part_left : (p q : List ℕ) (at n : ℕ) → at + n ≤ length p → take n (drop at (p ++ q)) ≡ take n (drop at p)
part_left p q at n h = rw (drop-append-le at p q (omega arith)) (take-append-le n (drop at p) q (rw length-drop (omega arith)))

pub part_between : (p q r : List ℕ) {s : List ℕ} {at n : ℕ} → s ≡ p ++ (q ++ r) → length p ≡ at → length q ≡ n → take n (drop at s) ≡ q
part_between p q r {at = at} {n = n} e k m = rw (e, drop_at p (q ++ r) at k) (take_at q r n m)

pub length_part : (d : List ℕ) (at n : ℕ) → at + n ≤ length d → length (take n (drop at d)) ≡ n
length_part d at n h = length-take-le n (drop at d) (rw length-drop (omega arith))

-- lent, it comes back as a write; or as it was
pub part_back : (d s : List ℕ) (at n : ℕ) → length s ≡ n → take at d ++ (s ++ drop n (drop at d)) ≡ put d at s
unfolding put
part_back d s at n h = rw (drop-drop n at d, ← h) refl

pub part_same : (d : List ℕ) (at n : ℕ) → d ≡ take at d ++ (take n (drop at d) ++ drop n (drop at d))
part_same d at n = sym (rw (take-append-drop n (drop at d)) (take-append-drop at d))

-- written over itself
pub put_part : (d : List ℕ) (at n : ℕ) → at + n ≤ length d → d ≡ put d at (take n (drop at d))
put_part d at n h = part_same d at n ∙ part_back d (take n (drop at d)) at n (length_part d at n h)

-- what follows a write stays
pub after-put : (d s : List ℕ) (at m : ℕ) → at + length s ≤ m → at ≤ length d → drop m (put d at s) ≡ drop m d
unfolding put
after-put d s at m h g =
    let n = at + length s in
    let p = take at d ++ s in
    let l : length p ≡ n = length-append (take at d) s ∙ rw (length-take-le at d g) refl in
    let e : n + (m - n) ≡ m = omega arith in
    rw (← e, ← append_assoc (take at d) s (drop n d), ← drop-drop (m - n) n (p ++ drop n d), drop_at p (drop n d) n l) (drop-drop (m - n) n d)
