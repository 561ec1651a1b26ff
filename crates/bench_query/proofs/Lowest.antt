-- The lowest number at which a test holds, and what the question's answer means.
use Prim.Native.Nat.{ℕ, zero, suc, ◌+◌, ◌-◌, ◌≤◌, ◌<◌}
use mathlib.Core.Path.{◌≡◌, refl, sym, ap, ◌∙◌}
use mathlib.Core.Logic.{◌≢◌}
use mathlib.Core.Bool.{Bool, true, false}
use mathlib.Core.List.{List, [], ◌∷◌}
use native.Mathlib.Omega.{arith}
use borrow.Author.Tests.{eqb-true, eq-eqb}
use lib.Dec.{eqb}
use Rattle.std.specs.Prelude.{Option, None, Some}
use Rattle.octets.specs.Test.{when, first, refused, ok, outcome}
use Rattle.octets.proofs.Test.{both, joined, split, by_eq, by_lt, refused_of}
use Rattle.octets.proofs.Outcomes.{refusal_some}
use Rattle.octets.specs.declared.refusal.Refusal.{Refusal}
use Rattle.octets.specs.Refusal.{refusal_number}
use Rattle.octets.specs.Sizes.{longest_frame, longest_block}
use Rattle.call_spec.specs.Calls.{rooms}
use Rattle.bench_spec.specs.Bench.{Bench, neither}
use Rattle.bench_checks.specs.Ready.{ready_questions}
use Rattle.bench_query.specs.Found.{equal, would_change, lowest, query_questions, first_frame, Means}
use Rattle.bench_query.proofs.Delivery.{beyond}

-- the test of two lists
pub equal_so : (s t : List ℕ) → equal s t ≡ true → s ≡ t
unfolding equal
equal_so [] [] h = refl
equal_so [] (y ∷ t) h = absurd (let z : ◌≡◌ {A = ℕ} 0 1 = cc in omega arith)
equal_so (x ∷ s) [] h = absurd (let z : ◌≡◌ {A = ℕ} 0 1 = cc in omega arith)
equal_so (x ∷ s) (y ∷ t) h =
    let b = both (eqb x y) (equal s t) h in
    let e = eqb-true x y b.0 in
    let l = equal_so s t b.1 in
    λ i. e i ∷ l i

pub so_equal : (s : List ℕ) → equal s s ≡ true
unfolding equal
so_equal [] = refl
so_equal (x ∷ s) = joined (eq-eqb x x refl) (so_equal s)

-- one number of n - i is looked at
module _ (p : ℕ → Bool) where
  abbrev left : ℕ → ℕ → Option ℕ
  left i n = lowest p i (n - i)

  one_left : (i n : ℕ) → i < n → left i n ≡ when (p i) (Some i) (left (i + 1) n)
  unfolding lowest
  one_left i n h =
      let e : n - i ≡ suc (n - (i + 1)) = omega arith in
      ap (lowest p i) e

  pub here : (i n : ℕ) → i < n → p i ≡ true → left i n ≡ Some i
  unfolding when
  here i n h t = one_left i n h ∙ rw t refl

  pub further : (i n : ℕ) → i < n → p i ≡ false → left i n ≡ left (i + 1) n
  unfolding when
  further i n h t = one_left i n h ∙ rw t refl

  pub none_left : (i n : ℕ) → n ≤ i → left i n ≡ None
  unfolding lowest
  none_left i n h =
      let e : n - i ≡ 0 = omega arith in
      ap (lowest p i) e

  -- what is found among n numbers from i on
  abbrev Finds : ℕ → ℕ → Option ℕ → Type 0
  Finds i n (Some m) = (i ≤ m) × (m < i + n) × (p m ≡ true) × ((k : ℕ) → i ≤ k → k < m → p k ≡ false)
  Finds i n None = (k : ℕ) → i ≤ k → k < i + n → p k ≡ false

  -- one number more before them, at which the test fails
  more : (i n : ℕ) (f : Option ℕ) → p i ≡ false → Finds (i + 1) n f → Finds i (suc n) f
  more i n (Some m) t (a, b, c, d) = (omega arith, omega arith, c, λ k x y. by_eq k i (λ e. ap p e ∙ t) (λ e. d k (omega arith) y))
  more i n None t d = λ k x y. by_eq k i (λ e. ap p e ∙ t) (λ e. d k (omega arith) (omega arith))

  finds : (i n : ℕ) → Finds i n (lowest p i n)
  unfolding lowest
  finds i zero = λ k a b. absurd (omega arith)
  finds i (suc n) =
      split (Finds i (suc n)) (p i)
      (λ t. (omega arith, omega arith, t, λ k a b. absurd (omega arith)))
      (λ t. more i n (lowest p (i + 1) n) t (finds (i + 1) n))

module _ (w : Bench) where
  -- past 11, 12 and 15
  passed : (f : Option ℕ) → Finds (would_change w) 0 w.count f → first (query_questions w) ≡ 0 → Means w (ok f)
  passed (Some n) (a, b, c, d) h = (h, omega arith, c, λ k l. d k (omega arith) l)
  passed None d h = (h, λ k. by_lt k w.count (λ l. d k (omega arith) (omega arith)) (λ l. beyond w k l))

  by_number : (n : ℕ) → first (query_questions w) ≡ n → Means w (outcome n (lowest (would_change w) 0 w.count))
  unfolding outcome
  by_number zero h = passed (lowest (would_change w) 0 w.count) (finds (would_change w) 0 w.count) h
  by_number (suc k) h = (h, omega arith)

  pub means : Means w (first_frame w)
  unfolding first_frame
  means = by_number (first (query_questions w)) refl

  -- the answer where 11, 12 or 15 refuses
  pub refuses : {n : ℕ} → n ≡ first (query_questions w) → n ≢ 0 → refused n ≡ first_frame w
  unfolding first_frame
  refuses {n} e h = sym (refused_of _ n h) ∙ ap (λ (k : ℕ). outcome k (lowest (would_change w) 0 w.count)) e

  pub asked : {n : ℕ} → n ≡ first (ready_questions neither w (rooms longest_frame longest_block)) → n ≡ first (query_questions w)
  unfolding first when
  asked e = e

  pub declined : (r : Refusal) → refusal_number r ≡ first (ready_questions neither w (rooms longest_frame longest_block)) → refused (refusal_number r) ≡ first_frame w
  declined r e = refuses (asked e) (refusal_some r)

  -- and where they do not
  pub names : first (query_questions w) ≡ 0 → {f : Option ℕ} → lowest (would_change w) 0 w.count ≡ f → ok f ≡ first_frame w
  unfolding first_frame outcome
  names h e = rw h (ap ok (sym e))
