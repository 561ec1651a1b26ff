-- What is claimed of pages (document 02, N6).
use Rattle.std.specs.Prelude.{ℕ, ◌+◌, ◌*◌, ◌≤◌, ◌≡◌, ◌≢◌, true, List, ◌++◌, length, drop, get_or}
use Rattle.octets.specs.Sizes.{page_size, numbers_each, last_incarnation}
use Rattle.page.specs.Page.{used_for, count, goes_with, reserving, page_of}

-- 15 is answered yes of the page that goes with l, in a buffer that may be longer,
abbrev pub PageGoes : Type 0
PageGoes = (l : ℕ) → l ≤ last_incarnation → (more : List ℕ) → goes_with l (page_of (used_for l) ++ more) ≡ true

-- and of no other
abbrev pub PageIs : Type 0
PageIs = (l : ℕ) (page : List ℕ) → page_size ≤ length page → goes_with l page ≡ true → page ≡ page_of (used_for l) ++ drop page_size page

-- the one store makes of it the page that goes with the next number
abbrev pub PageReserves : Type 0
PageReserves =
    (l k : ℕ) → k ≤ last_incarnation → l ≤ k → k ≤ l + 1 → (more : List ℕ)
    → reserving k (page_of (used_for l) ++ more) ≡ page_of (used_for k) ++ more

-- of any page it changes one octet at most, the first that is not 00,
abbrev pub OneOctet : Type 0
OneOctet =
    (l : ℕ) (page : List ℕ)
    → ((i : ℕ) → i ≢ count page → get_or (reserving l page) i 0 ≡ get_or page i 0) × (length (reserving l page) ≡ length page)

-- and none where the number is reserved
abbrev pub ReservedStays : Type 0
ReservedStays = (l : ℕ) (page : List ℕ) → l ≤ numbers_each * count page → reserving l page ≡ page
