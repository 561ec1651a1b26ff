-- The page that goes with a number, and what the one store of a call leaves of a page.
use Prim.Native.Nat.{ℕ, zero, suc, ◌+◌, ◌*◌, ◌-◌, ◌≤◌, ◌<◌}
use mathlib.Core.Path.{◌≡◌, refl, sym, ap, ap₂, ◌∙◌}
use mathlib.Core.Logic.{◌≢◌}
use mathlib.Core.Bool.{true}
use mathlib.Core.List.{List, [], ◌∷◌, ◌++◌}
use native.Mathlib.Omega.{arith}
use lib.Dec.{eqb}
use lib.ListN.{length, take, drop, set, get_or, replicate, length-append, length-replicate, length-set, take-append-drop}
use lib.Seq.{take_at, length-take-le, get_or-set_other}
use borrow.Author.Tests.{eqb-true, eq-eqb, ne_eqb}
use Rattle.octets.specs.Sizes.{page_size, numbers_each, last_incarnation}
use Rattle.octets.specs.Test.{when, if_eq}
use Rattle.octets.proofs.Test.{by_eq, eq_yes, eq_no, if-eq, if-lt, lt_no, both, joined}
use Rattle.page.specs.Page.{used, unused, used_for, only, is_run, leading, runs, count, goes_with, reserving, page_of}
use Rattle.page.specs.Claim.{PageGoes, PageIs, PageReserves, OneOctet, ReservedStays}

-- p octets of 00 and n of FF
only-unused : (n : ℕ) → only unused (replicate n unused) ≡ true
unfolding only
only-unused zero = refl
only-unused (suc n) = only-unused n

run_of : (p n : ℕ) → is_run (replicate p used ++ replicate n unused) ≡ true
unfolding is_run only when
run_of zero zero = refl
run_of zero (suc n) = cc (only-unused n)
run_of (suc p) n = run_of p n

leading_of : (p n : ℕ) → leading (replicate p used ++ replicate n unused) ≡ p
unfolding leading if_eq when
leading_of zero zero = refl
leading_of zero (suc n) = refl
leading_of (suc p) n = omega (arith, leading_of p n)

next_of : (p n : ℕ) (more : List ℕ)
    → set ((replicate p used ++ replicate (suc n) unused) ++ more) p used ≡ (replicate (suc p) used ++ replicate n unused) ++ more
next_of zero n more = refl
next_of (suc p) n more = ap (λ (s : List ℕ). used ∷ s) (next_of p n more)

-- the page with the count p
module _ (p : ℕ) (fits : p ≤ page_size) where
  pub page_long : length (page_of p) ≡ page_size
  unfolding page_of
  page_long = simp (length-append, length-replicate) (omega arith)

  module _ (more : List ℕ) where
    front : take page_size (page_of p ++ more) ≡ page_of p
    front = take_at (page_of p) more page_size page_long

    pub page-runs : runs (page_of p ++ more) ≡ true
    unfolding runs page_of
    page-runs = ap is_run front ∙ run_of p (page_size - p)

    pub page-count : count (page_of p ++ more) ≡ p
    unfolding count page_of
    page-count = ap leading front ∙ leading_of p (page_size - p)

    next : p < page_size → set (page_of p ++ more) p used ≡ page_of (suc p) ++ more
    unfolding page_of
    next h =
        let e : page_size - p ≡ suc (page_size - suc p) = omega arith in
        ap (λ (n : ℕ). set ((replicate p used ++ replicate n unused) ++ more) p used) e ∙ next_of p (page_size - suc p) more

-- question 15 is answered yes of the page that goes with l
pub page_goes : PageGoes
unfolding goes_with
page_goes l h more =
    let f : used_for l ≤ page_size = omega arith in
    joined (page-runs (used_for l) f more) (eq-eqb _ _ (page-count (used_for l) f more))

-- the one store keeps the page that of the new number
pub page_reserves : PageReserves
unfolding reserving
page_reserves l k h a b more =
    let f : used_for l ≤ page_size = omega arith in
    let c : count (page_of (used_for l) ++ more) ≡ used_for l = page-count (used_for l) f more in
    if-lt (λ (s : List ℕ). s ≡ page_of (used_for k) ++ more) _ _
    (λ t.
    let e : suc (used_for l) ≡ used_for k = omega arith in
    ap (λ (n : ℕ). set (page_of (used_for l) ++ more) n used) c
    ∙ next (used_for l) f more (omega arith)
    ∙ ap (λ (n : ℕ). page_of n ++ more) e)
    (λ t.
    let e : used_for l ≡ used_for k = omega arith in
    ap (λ (n : ℕ). page_of n ++ more) e)

-- what question 15 says of a page
pub goes_so : (l : ℕ) (page : List ℕ) → goes_with l page ≡ true → (runs page ≡ true) × (count page ≡ used_for l)
unfolding goes_with
goes_so l page h =
    let b = both (runs page) _ h in
    (b.0, eqb-true (count page) (used_for l) b.1)

pub leading≤ : (s : List ℕ) → leading s ≤ length s
unfolding leading
leading≤ [] = omega arith
leading≤ (x ∷ s) = if-eq (λ (n : ℕ). n ≤ length (x ∷ s)) x used (λ e. omega (arith, leading≤ s)) (λ e. omega arith)

pub count≤ : (page : List ℕ) → page_size ≤ length page → count page ≤ page_size
unfolding count
count≤ page h = omega (arith, leading≤ (take page_size page), length-take-le page_size page h)

-- no page reserves a number above the last
pub goes_last : (l : ℕ) (page : List ℕ) → page_size ≤ length page → goes_with l page ≡ true → l ≤ last_incarnation
goes_last l page h g = omega (arith, (goes_so l page g).1, count≤ page h)

-- nothing is stored where the number is reserved
pub stays : ReservedStays
unfolding reserving
stays l page h = lt_no _ _ _ _ (omega arith)

-- at most one octet is stored, the first that is not 00
pub one_octet : OneOctet
unfolding reserving
one_octet l page = (
  λ i n. if-lt (λ (s : List ℕ). get_or s i 0 ≡ get_or page i 0) _ _ (λ t. get_or-set_other page (count page) i used 0 n) (λ t. refl),
  if-lt (λ (s : List ℕ). length s ≡ length page) _ _ (λ t. length-set page (count page) used) (λ t. refl),
)

-- a page that question 15 is answered yes of is the one that goes with l
only_is : (x : ℕ) (s : List ℕ) → only x s ≡ true → s ≡ replicate (length s) x
unfolding only
only_is x [] h = refl
only_is x (y ∷ s) h = let u = both (eqb y x) (only x s) h in ap₂ (λ (z : ℕ) (t : List ℕ). z ∷ t) (eqb-true y x u.0) (only_is x s u.1)

abbrev run_of_both : ℕ → ℕ → List ℕ
run_of_both n m = replicate n used ++ replicate m unused

pub leading_yes : (x : ℕ) (s : List ℕ) → x ≡ used → leading (x ∷ s) ≡ suc (leading s)
unfolding leading
leading_yes x s e = let k : leading s + 1 ≡ suc (leading s) = omega arith in eq_yes _ _ _ _ e ∙ k

pub leading_no : (x : ℕ) (s : List ℕ) → x ≢ used → leading (x ∷ s) ≡ 0
unfolding leading
leading_no x s n = eq_no _ _ _ _ n

pub leading-none : leading [] ≡ 0
unfolding leading
leading-none = refl

run_is : (s : List ℕ) → is_run s ≡ true → s ≡ run_of_both (leading s) (length s - leading s)
unfolding is_run when
run_is [] h = ap (λ (n : ℕ). run_of_both n (0 - n)) (sym leading-none)
run_is (x ∷ s) h =
    by_eq x used
    (λ e.
    let k = leading_yes x s e in
    let m : length s - leading s ≡ length (x ∷ s) - leading (x ∷ s) = omega arith in
    let r : is_run s ≡ true = rw (eq-eqb x used e) at h in
    ap₂ (λ (z : ℕ) (t : List ℕ). z ∷ t) e (run_is s r) ∙ ap₂ run_of_both (sym k) m)
    (λ n.
    let k = leading_no x s n in
    let m : suc (length s) ≡ length (x ∷ s) - leading (x ∷ s) = omega arith in
    let r : only unused (x ∷ s) ≡ true = rw (ne_eqb x used n) at h in
    only_is unused (x ∷ s) r ∙ ap₂ run_of_both (sym k) m)

-- a page that is a run is the one with its count
pub run_page : (page : List ℕ) → page_size ≤ length page → runs page ≡ true → page ≡ page_of (count page) ++ drop page_size page
unfolding page_of runs count
run_page page h r =
    let k = length-take-le page_size page h in
    sym (take-append-drop page_size page)
    ∙ ap (λ (t : List ℕ). t ++ drop page_size page)
    (run_is (take page_size page) r ∙ ap (λ (m : ℕ). run_of_both (leading (take page_size page)) (m - leading (take page_size page))) k)

pub page_is : PageIs
page_is l page h g =
    let u = goes_so l page g in
    run_page page h u.0 ∙ ap (λ (n : ℕ). page_of n ++ drop page_size page) u.1

-- once the one store is made, the number is reserved
pub reserved : (l : ℕ) (page : List ℕ) → page_size ≤ length page → runs page ≡ true → l ≤ last_incarnation → l ≤ numbers_each * count page + numbers_each
    → l ≤ numbers_each * count (reserving l page)
unfolding reserving
reserved l page h r last most =
    if-lt (λ (s : List ℕ). l ≤ numbers_each * count s) (numbers_each * count page) l
    (λ t.
    let p = run_page page h r in
    let more = drop page_size page in
    let n : set page (count page) used ≡ page_of (suc (count page)) ++ more =
    ap (λ (s : List ℕ). set s (count page) used) p ∙ next (count page) (omega arith) more (omega arith) in
    omega (arith, ap count n, page-count (suc (count page)) (omega arith) more))
    (λ t. omega arith)

-- and so it is on the page that is left
pub reserved_on : (l : ℕ) (page : List ℕ) → (page_size ≤ length page) × (runs page ≡ true) → (l ≤ last_incarnation) × (l ≤ numbers_each * count page + numbers_each)
    → {page' : List ℕ} → page' ≡ reserving l page → (page' ≡ reserving l page) × (l ≤ numbers_each * count page')
reserved_on l page long most h = (h, omega (arith, ap count h, reserved l page long.0 long.1 most.0 most.1))
