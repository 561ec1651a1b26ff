-- Laws of tests of every number below another, and of every element.
use Prim.Native.Nat.{ℕ, zero, suc, ◌+◌, ◌<◌}
use mathlib.Core.Path.{◌≡◌, refl, sym, ap, ◌∙◌}
use mathlib.Core.Logic.{⊎_elim}
use mathlib.Core.Bool.{Bool, true, false, ◌&&◌, false≢true, and-true, and_assoc}
use mathlib.Core.List.{List, [], ◌∷◌, ◌++◌}
use native.Mathlib.Nat.{le_of_suc-le-suc, not-suc-le-zero, eq-or-lt_of_le}
use native.Mathlib.Numerals.{add-one}
use native.Mathlib.Omega.{arith}
use lib.Bits.{bit_or, or_zero_l, or_add_and, and_le_r}
use lib.Dec.{eqb}
use lib.ListN.{length, take, get_or}
use lib.Seq.{take-suc}
use borrow.Author.Tests.{eqb-true, eq-eqb, ne_eqb}
use Rattle.octets.specs.Test.{all_below, zeros}
use Rattle.octets.proofs.Test.{both, joined}

-- what two tests mean alike, they are
pub alike : (a b : Bool) → (a ≡ true → b ≡ true) → (b ≡ true → a ≡ true) → a ≡ b
alike true b f g = sym (f refl)
alike false true f g = g refl
alike false false f g = refl

-- one number more, of which it holds
pub all_more : (p : ℕ → Bool) (i : ℕ) → all_below i p ≡ true → {r : Bool} → r ≡ p i → r ≡ true → all_below (i + 1) p ≡ true
unfolding all_below
all_more p i h k t = rw add-one (joined h (sym k ∙ t))

pub all-at : (p : ℕ → Bool) (n i : ℕ) → i < n → all_below n p ≡ true → p i ≡ true
unfolding all_below
all-at p zero i h k = absurd (not-suc-le-zero h)
all-at p (suc n) i h k =
    let b = both (all_below n p) (p n) k in
    ⊎_elim (λ (e : i ≡ n). rw e b.1) (λ (l : i < n). all-at p n i l b.0) (eq-or-lt_of_le (le_of_suc-le-suc h))

-- where it fails of one, it does not hold of each
pub all_fail : (p : ℕ → Bool) (n i : ℕ) → i < n → {r : Bool} → r ≡ p i → r ≡ false → false ≡ all_below n p
all_fail p n i h k t = alike false (all_below n p) (λ e. absurd (false≢true e)) (λ e. sym t ∙ k ∙ all-at p n i h e)

pub all_hold : (p : ℕ → Bool) (n : ℕ) → ((i : ℕ) → i < n → p i ≡ true) → all_below n p ≡ true
unfolding all_below
all_hold p zero h = refl
all_hold p (suc n) h = joined (all_hold p n (λ i k. h i (omega arith))) (h n (omega arith))

zeros-append : (s t : List ℕ) → zeros (s ++ t) ≡ (zeros s && zeros t)
unfolding zeros
zeros-append [] t = refl
zeros-append (x ∷ s) t = rw (zeros-append s t) (sym (and_assoc (eqb x 0) (zeros s) (zeros t)))

-- no bit of two numbers is set where both are 0
or-zero : (a b : ℕ) → eqb (bit_or a b) 0 ≡ (eqb a 0 && eqb b 0)
or-zero zero b = rw (or_zero_l b) refl
or-zero (suc a) b =
    rw (ne_eqb (suc a) 0 (λ e. omega arith)) (ne_eqb (bit_or (suc a) b) 0 (λ e. omega (arith, or_add_and (suc a) b, and_le_r (suc a) b)))

-- one element more
pub zeros-more : (s : List ℕ) (i : ℕ) → i < length s → (zeros (take i s) && eqb (get_or s i 0) 0) ≡ zeros (take (i + 1) s)
unfolding zeros
zeros-more s i h = sym (rw (add-one, take-suc s i 0 h) (zeros-append (take i s) (get_or s i 0 ∷ []) ∙ ap (λ (b : Bool). zeros (take i s) && b) (and-true (eqb (get_or s i 0) 0))))

-- and where x has the bits of those before it
pub bits_more : (s : List ℕ) (i : ℕ) → i < length s → (x : ℕ) → eqb x 0 ≡ zeros (take i s) → eqb (bit_or x (get_or s i 0)) 0 ≡ zeros (take (i + 1) s)
bits_more s i h x e = or-zero x (get_or s i 0) ∙ rw e (zeros-more s i h)

pub zeros-at : (s : List ℕ) (i : ℕ) → zeros s ≡ true → get_or s i 0 ≡ 0
unfolding zeros
zeros-at [] i h = refl
zeros-at (x ∷ s) zero h = eqb-true x 0 (both (eqb x 0) (zeros s) h).0
zeros-at (x ∷ s) (suc i) h = zeros-at s i (both (eqb x 0) (zeros s) h).1

pub zeros_of : (s : List ℕ) → ((i : ℕ) → i < length s → get_or s i 0 ≡ 0) → zeros s ≡ true
unfolding zeros
zeros_of [] h = refl
zeros_of (x ∷ s) h = joined (eq-eqb x 0 (h 0 (omega arith))) (zeros_of s (λ i k. h (suc i) (omega arith)))
