-- Question 1 refuses a line that is longer than what is kept of it, and what is kept: so a line may be asked for what is kept of it.
use Prim.Native.Nat.{ℕ, zero, suc, ◌*◌, ◌≤◌}
use mathlib.Core.Path.{◌≡◌, refl, ap}
use mathlib.Core.Logic.{◌⊎◌, inl, inr, ⊎_elim}
use mathlib.Core.Bool.{Bool, true, false}
use mathlib.Core.List.{List, [], ◌∷◌, ◌++◌}
use native.Mathlib.Omega.{arith}
use lib.Dec.{T}
use lib.ListN.{length, take}
use lib.Seq.{length-take-le, take_all}
use Rattle.octets.specs.Sizes.{longest_frame}
use Rattle.octets.specs.Test.{when, Question, first, Outcome, refusing}
use Rattle.octets.proofs.Test.{if-lt, above_range}
use Rattle.hexadecimal.specs.Line.{length_ok, line_questions}
use Rattle.line_split.specs.Split.{longest_kept, cut}

not_ok : (n : ℕ) → longest_kept ≤ n → length_ok n ≡ false
unfolding length_ok
not_ok n h = rw (above_range 2 (2 * longest_frame) n (omega arith)) refl

by_cut : (l : List ℕ) → (cut l ≡ l) ⊎ ((length_ok (length (cut l)) ≡ false) × (length_ok (length l) ≡ false))
unfolding cut
by_cut l =
    if-lt (λ (b : Bool). (take longest_kept l ≡ l) ⊎ ((length_ok (length (take longest_kept l)) ≡ false) × (length_ok (length l) ≡ false))) (length l) longest_kept {x = true} {y = false}
    (λ h. inl (take_all longest_kept l (omega arith)))
    (λ h. inr (not_ok _ (omega (arith, length-take-le longest_kept l h)), not_ok _ h))

-- no question has the number 0, which is success
abbrev pub numbered : List Question → Bool
numbered [] = true
numbered ((zero, b) ∷ qs) = false
numbered ((suc n, b) ∷ qs) = numbered qs

-- what is asked behind a question whose answer is no does not count
behind : {A : Type 0} (qs : List Question) → T (numbered qs) → (n : ℕ) (x y : List Question) (o p : Outcome A)
    → refusing (first (qs ++ ((suc n, false) ∷ x))) o ≡ refusing (first (qs ++ ((suc n, false) ∷ y))) p
unfolding refusing first when
behind [] k n x y o p = refl
behind ((zero, b) ∷ qs) k n x y o p = absurd k
behind ((suc m, true) ∷ qs) k n x y o p = behind qs k n x y o p
behind ((suc m, false) ∷ qs) k n x y o p = refl

-- What a line comes to, by the questions qs, by 1 and 2 and by what its characters make then, is what the kept part of it comes to.
pub asks-cut : {A : Type 0} (qs : List Question) → T (numbered qs) → (f : List ℕ → Outcome A) (l : List ℕ)
    → refusing (first (qs ++ line_questions (cut l))) (f (cut l)) ≡ refusing (first (qs ++ line_questions l)) (f l)
asks-cut qs k f l =
    ⊎_elim (λ e. ap (λ (x : List ℕ). refusing (first (qs ++ line_questions x)) (f x)) e) (λ h. rw (h.0, h.1) (behind qs k 0 _ _ _ _)) (by_cut l)
