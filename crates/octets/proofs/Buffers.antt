-- What is written at the start of a buffer, and zeros after what is held.
use Prim.Native.Nat.{ℕ, zero, suc, ◌+◌, ◌-◌, ◌≤◌}
use mathlib.Core.Path.{◌≡◌, refl, sym, ap, ◌∙◌}
use mathlib.Core.List.{List, ◌++◌, append-nil}
use native.Mathlib.Nat.{sub-zero, zero-sub, suc-sub-suc}
use native.Mathlib.Omega.{arith}
use lib.ListN.{length, take, drop, replicate, length-append, length-drop, length-replicate, drop_of_length-le}
use lib.Seq.{take-append_seam, take-length, drop-drop}
use Rattle.octets.specs.Octets.{put, padded}

-- it fits, since no buffer grows
pub put_fits : (d s : List ℕ) {x : List ℕ} → x ≡ put d 0 s → length x ≡ length d → length s ≤ length d
unfolding put
put_fits d s e l = omega (arith, ap length e, length-append s (drop (0 + length s) d), length-drop (0 + length s) d)

-- and it is there
pub taken : (d s : List ℕ) {x : List ℕ} {n : ℕ} → x ≡ put d 0 s → n ≡ length s → take n x ≡ s
unfolding put
taken d s e l = rw (e, l) (take-append_seam s (drop (0 + length s) d))

pub drop-zeros : (m n : ℕ) → drop {A = ℕ} m (replicate n 0) ≡ replicate (n - m) 0
drop-zeros zero n = rw sub-zero refl
drop-zeros (suc m) zero = rw zero-sub refl
drop-zeros (suc m) (suc n) = rw suc-sub-suc (drop-zeros m n)

pub length-padded : (n : ℕ) (s : List ℕ) → length s ≤ n → length (padded n s) ≡ n
unfolding padded
length-padded n s h = simp (length-append, length-replicate) (omega arith)

-- the rest of a buffer from m on, and what is written at its start
pub whole : (x : List ℕ) (m : ℕ) → take (length x - m) (drop m x) ≡ drop m x
whole x m = ap (λ (n : ℕ). take n (drop m x)) (sym (length-drop m x)) ∙ take-length (drop m x)

pub length_rest : (x : List ℕ) (m : ℕ) → length (take (length x - m) (drop m x)) ≡ length x - m
length_rest x m = ap length (whole x m) ∙ length-drop m x

pub rest_put : (x q : List ℕ) (m : ℕ) {y : List ℕ} → y ≡ put (take (length x - m) (drop m x)) 0 q → take m x ++ (y ++ drop (length x - m) (drop m x)) ≡ put x m q
unfolding put
rest_put x q m {y} e =
    let z : 0 + length q ≡ length q = omega arith in
    rw (drop_of_length-le (drop m x) {i = length x - m} (omega (arith, length-drop m x)), append-nil y, e, whole x m, z, drop-drop (length q) m x) refl
