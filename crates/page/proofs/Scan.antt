-- What the scans of a page find.
use Prim.Native.Nat.{ℕ, zero, suc, ◌+◌, ◌*◌, ◌-◌, ◌≤◌, ◌<◌}
use mathlib.Core.Path.{◌≡◌, refl, sym, ap, ◌∙◌}
use mathlib.Core.Logic.{◌≢◌}
use mathlib.Core.Bool.{Bool, true, false, ◌&&◌, and-true, and_assoc, false≢true}
use mathlib.Core.List.{List, [], ◌∷◌, ◌++◌}
use native.Mathlib.Numerals.{add-one}
use native.Mathlib.Omega.{arith}
use Rattle.std.proofs.lemmas.List.{get_or_default}
use borrow.Author.Tests.{eqb-true, eq-eqb, ne_eqb}
use lib.Bits.{bit_and, and_le_l, and_le_r}
use lib.Dec.{eqb}
use lib.ListN.{length, take, drop, set, get_or, take-append-drop}
use lib.Seq.{take-suc, take-add, length-take-le, get_or-take}
use Rattle.std.specs.List.{fold}
use Rattle.std.specs.List.Sorted.{IsPartitionedBy, IsPartitionPoint}
use Rattle.std.specs.Simd.{first_chunks}
use Rattle.octets.specs.Sizes.{page_size, numbers_each, last_incarnation}
use Rattle.octets.specs.Test.{when, zeros}
use Rattle.octets.proofs.Test.{by_eq, by_lt, lt_yes, both, joined}
use Rattle.octets.proofs.Each.{alike}
use Rattle.page.specs.Page.{used, unused, only, is_run, leading, runs, count, goes_with, reserving}
use Rattle.page.proofs.Laws.{leading_yes, leading_no, leading-none, leading≤, goes_last, stays}

pub zeros-only : (s : List ℕ) → zeros s ≡ only used s
unfolding zeros only
zeros-only [] = refl
zeros-only (x ∷ s) = ap (λ (b : Bool). eqb x 0 && b) (zeros-only s)

-- every bit of two octets is set where both are FF
and-unused : (a b : ℕ) → a ≤ unused → b ≤ unused → eqb (bit_and a b) unused ≡ (eqb a unused && eqb b unused)
and-unused a b h k =
    alike _ _
    (λ e.
    let f = eqb-true (bit_and a b) unused e in
    joined (eq-eqb a unused (omega (arith, and_le_l a b))) (eq-eqb b unused (omega (arith, and_le_r a b))))
    (λ e.
    let f = both (eqb a unused) (eqb b unused) e in
    rw (eqb-true a unused f.0, eqb-true b unused f.1) refl)

-- one octet more
only_snoc : (x : ℕ) (s : List ℕ) (y : ℕ) → only x (s ++ (y ∷ [])) ≡ (only x s && eqb y x)
unfolding only
only_snoc x [] y = and-true (eqb y x)
only_snoc x (z ∷ s) y = rw (only_snoc x s y) (sym (and_assoc (eqb z x) (only x s) (eqb y x)))

only-more : (x : ℕ) (s : List ℕ) (i : ℕ) → i < length s → (only x (take i s) && eqb (get_or s i 0) x) ≡ only x (take (i + 1) s)
only-more x s i h = sym (rw (add-one, take-suc s i 0 h) (only_snoc x (take i s) (get_or s i 0)))

-- where x has the bits that all those before it have
pub bits_more : (s : List ℕ) (i : ℕ) → i < length s → get_or s i 0 ≤ unused → (x : ℕ) → x ≤ unused → eqb x unused ≡ only unused (take i s)
    → eqb (bit_and x (get_or s i 0)) unused ≡ only unused (take (i + 1) s)
bits_more s i h k x f e = and-unused x (get_or s i 0) f k ∙ rw e (only-more unused s i h)

-- what is left of a page from the place i
abbrev pub left : ℕ → List ℕ → List ℕ
left i s = take (page_size - i) (drop i s)

module _ (x : ℕ) (s : List ℕ) where
  run-yes : x ≡ used → is_run (x ∷ s) ≡ is_run s
  unfolding is_run when
  run-yes e = rw (eq-eqb x used e, when)

  run-no : x ≢ used → is_run (x ∷ s) ≡ only unused (x ∷ s)
  unfolding is_run when
  run-no n = rw (ne_eqb x used n, when)

run_none : is_run [] ≡ true
unfolding is_run
run_none = refl

-- a run of 00 followed only by FF, cut where the 00 end
parts : (a b : List ℕ) → is_run (a ++ b) ≡ true → leading (a ++ b) ≡ length a → (only used a && only unused b) ≡ true
unfolding only
parts [] [] p q = refl
parts [] (x ∷ b) p q = by_eq x used (λ e. absurd (omega (arith, leading_yes x b e))) (λ n. sym (run-no x b n) ∙ p)
parts (x ∷ a) b p q =
    by_eq x used
    (λ e. rw (eq-eqb x used e) (parts a b (sym (run-yes x (a ++ b) e) ∙ p) (omega (arith, leading_yes x (a ++ b) e))))
    (λ n. absurd (omega (arith, leading_no x (a ++ b) n)))

whole : (a b : List ℕ) → (only used a && only unused b) ≡ true → (is_run (a ++ b) ≡ true) × (leading (a ++ b) ≡ length a)
unfolding only
whole [] [] r = (run_none, leading-none)
whole [] (x ∷ b) r =
    let n : x ≢ used = λ e. omega (arith, eqb-true x unused (both (eqb x unused) (only unused b) r).0) in
    (run-no x b n ∙ r, leading_no x b n)
whole (x ∷ a) b r =
    let u = both (eqb x used && only used a) (only unused b) r in
    let v = both (eqb x used) (only used a) u.0 in
    let e = eqb-true x used v.0 in
    let w = whole a b (joined v.1 u.1) in
    (run-yes x (a ++ b) e ∙ w.0, omega (arith, leading_yes x (a ++ b) e, w.1))

-- a part more
only-append : (x : ℕ) (a b : List ℕ) → only x (a ++ b) ≡ (only x a && only x b)
unfolding only
only-append x [] b = refl
only-append x (y ∷ a) b = rw (only-append x a b) (sym (and_assoc (eqb y x) (only x a) (only x b)))

pub only_part : (x : ℕ) (s : List ℕ) (i n : ℕ) → (only x (take i s) && only x (take n (drop i s))) ≡ only x (take (i + n) s)
only_part x s i n = sym (ap (only x) (take-add i n s) ∙ only-append x (take i s) (take n (drop i s)))

-- all parts of a list that a fold joins
pub parts_fold : (x n k : ℕ) (s : List ℕ) (a : Bool) → fold (λ (b : Bool) (t : List ℕ). b && only x t) a (first_chunks n k s) ≡ (a && only x (take (k * n) s))
unfolding only
parts_fold x n zero s a =
    let e : zero * n ≡ 0 = omega arith in
    rw e (sym (and-true a))
parts_fold x n (suc k) s a =
    let e : n + k * n ≡ suc k * n = omega arith in
    parts_fold x n k (drop n s) (a && only x (take n s))
    ∙ and_assoc a (only x (take n s)) (only x (take (k * n) (drop n s)))
    ∙ ap (λ (b : Bool). a && b) (only_part x s n (k * n) ∙ ap (λ (m : ℕ). only x (take m s)) e)

pub parts_and_rest : (x n k : ℕ) (s : List ℕ) → (only x (take (k * n) s) && only x (drop (k * n) s)) ≡ only x s
parts_and_rest x n k s = sym (only-append x (take (k * n) s) (drop (k * n) s)) ∙ ap (only x) (take-append-drop (k * n) s)

only_at : (x : ℕ) (s : List ℕ) → only x s ≡ true → (i : ℕ) → i < length s → get_or s i 0 ≡ x
unfolding only
only_at x [] h i k = absurd (omega arith)
only_at x (y ∷ s) h zero k = eqb-true y x (both (eqb y x) (only x s) h).0
only_at x (y ∷ s) h (suc i) k = only_at x s (both (eqb y x) (only x s) h).1 i (omega arith)

-- the octets that are counted are 00, and the next one is not; in a run all from there on are FF
run_after : (s : List ℕ) → is_run s ≡ true → (i : ℕ) → leading s ≤ i → i < length s → get_or s i 0 ≡ unused
run_after [] h i m k = absurd (omega arith)
run_after (x ∷ s) h zero m k =
    by_eq x used (λ e. absurd (omega (arith, leading_yes x s e))) (λ n. only_at unused (x ∷ s) (sym (run-no x s n) ∙ h) 0 k)
run_after (x ∷ s) h (suc i) m k =
    by_eq x used
    (λ e. run_after s (sym (run-yes x s e) ∙ h) i (omega (arith, leading_yes x s e)) (omega arith))
    (λ n. only_at unused (x ∷ s) (sym (run-no x s n) ∙ h) (suc i) k)

leading_below : (s : List ℕ) (i : ℕ) → i < leading s → get_or s i 0 ≡ used
leading_below [] i h = refl
leading_below (x ∷ s) zero h = by_eq x used (λ e. e) (λ n. absurd (omega (arith, leading_no x s n)))
leading_below (x ∷ s) (suc i) h =
    by_eq x used (λ e. leading_below s i (omega (arith, leading_yes x s e))) (λ n. absurd (omega (arith, leading_no x s n)))

leading_next : (s : List ℕ) (i : ℕ) → i ≡ leading s → i < length s → get_or s i 0 ≢ used
leading_next [] i e h = absurd (omega arith)
leading_next (x ∷ s) zero e h = by_eq x used (λ z. absurd (omega (arith, leading_yes x s z))) (λ n. n)
leading_next (x ∷ s) (suc i) e h =
    by_eq x used (λ z. leading_next s i (omega (arith, leading_yes x s z)) (omega arith)) (λ n. absurd (omega (arith, leading_no x s n)))

-- in a run no 00 comes after another octet, and where the 00 end is their count
run_parted : (t : List ℕ) → is_run t ≡ true → IsPartitionedBy (λ (x : ℕ). eqb x used) t
run_parted t r i j d h k e =
    let below : j < leading t =
    by_lt j (leading t)
    (λ b. b)
    (λ b. absurd (omega (arith, run_after t r j b k, get_or_default t j d 0 k, eqb-true (get_or t j d) used e))) in
    eq-eqb _ _ (get_or_default t i d 0 (omega arith) ∙ leading_below t i (omega arith))

point_is : (t : List ℕ) (n : ℕ) → n ≤ length t → IsPartitionPoint (λ (x : ℕ). eqb x used ≡ true) (λ (x : ℕ). eqb x used ≡ false) t n → n ≡ leading t
point_is t n h p =
    by_lt n (leading t)
    (λ b. absurd (false≢true (sym (p.1 n 0 (omega arith) (omega (arith, leading≤ t))) ∙ eq-eqb _ _ (leading_below t n b))))
    (λ b. by_lt (leading t) n
    (λ c. absurd (leading_next t (leading t) refl (omega arith) (eqb-true _ _ (p.0 (leading t) 0 (omega arith) c))))
    (λ c. omega arith))

module _ (s : List ℕ) (l : page_size ≤ length s) where
  pub page-parted : runs s ≡ true → IsPartitionedBy (λ (x : ℕ). eqb x used) (take page_size s)
  unfolding runs
  page-parted r = run_parted (take page_size s) r

  pub point-count : (n : ℕ) → n ≤ page_size → IsPartitionPoint (λ (x : ℕ). eqb x used ≡ true) (λ (x : ℕ). eqb x used ≡ false) (take page_size s) n → n ≡ count s
  unfolding count
  point-count n h p = point_is (take page_size s) n (omega (arith, length-take-le page_size s l)) p

  -- the page, cut at c
  cut : (c : ℕ) → c ≤ page_size → take page_size s ≡ take c s ++ left c s
  cut c h =
      let e : page_size ≡ c + (page_size - c) = omega arith in
      ap (λ (n : ℕ). take n s) e ∙ take-add c (page_size - c) s

  apart : (c : ℕ) → c ≤ page_size → runs s ≡ true → count s ≡ c → (only used (take c s) && only unused (left c s)) ≡ true
  unfolding runs count
  apart c h p q =
      parts (take c s) (left c s) (sym (ap is_run (cut c h)) ∙ p)
      (sym (ap leading (cut c h)) ∙ q ∙ sym (length-take-le c s (omega arith)))

  together : (c : ℕ) → c ≤ page_size → (only used (take c s) && only unused (left c s)) ≡ true → (runs s ≡ true) × (count s ≡ c)
  unfolding runs count
  together c h r =
      let w = whole (take c s) (left c s) r in
      (ap is_run (cut c h) ∙ w.0, ap leading (cut c h) ∙ w.1 ∙ length-take-le c s (omega arith))

  -- the page that has so many octets of 00, and no other, and FF in all others
  pub is_at : (c : ℕ) → c ≤ page_size → (zeros (take c s) && only unused (left c s)) ≡ (runs s && eqb (count s) c)
  is_at c k =
      ap (λ (b : Bool). b && only unused (left c s)) (zeros-only (take c s))
      ∙ alike _ _
      (λ r. let w = together c k r in joined w.0 (eq-eqb _ _ w.1))
      (λ r. let w = both (runs s) (eqb (count s) c) r in apart c k w.0 (eqb-true (count s) c w.1))

  -- question 15 of a restart: c is the count of a page that is a run
  pub runs-is : (c : ℕ) → (runs s ≡ true → c ≡ count s) → (runs s && eqb (count s) c) ≡ runs s
  runs-is c h = alike _ _ (λ r. (both (runs s) (eqb (count s) c) r).0) (λ r. joined r (eq-eqb (count s) c (sym (h r))))

  -- no page goes with a number above the last
  pub goes_not : (n : ℕ) → last_incarnation < n → false ≡ goes_with n s
  goes_not n h = alike _ _ (λ r. absurd (false≢true r)) (λ r. absurd (omega (arith, goes_last n s l r)))

  -- the place i of the octet that reserves n: below the count it is 00, and at the count it is not
  pub keeps : (n i : ℕ) → get_or s i 0 ≡ used → i ≤ count s → i < page_size → n ≤ numbers_each * i + numbers_each → s ≡ reserving n s
  unfolding count
  keeps n i e h k t =
      by_eq i (count s)
      (λ z. absurd (leading_next (take page_size s) i z (omega (arith, length-take-le page_size s l)) (get_or-take page_size s i 0 k ∙ e)))
      (λ z. sym (stays n s (omega arith)))

  pub stores : (n i : ℕ) → get_or s i 0 ≢ used → i ≤ count s → i < page_size → numbers_each * i < n → set s i used ≡ reserving n s
  unfolding reserving count
  stores n i e h k t =
      by_eq i (count s)
      (λ z. rw (← z) (sym (lt_yes _ _ _ _ t)))
      (λ z. absurd (e (sym (get_or-take page_size s i 0 k) ∙ leading_below (take page_size s) i (omega arith))))
