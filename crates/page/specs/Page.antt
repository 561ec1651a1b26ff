-- The page of an end (document 02, N6): "4,096 bytes, FF when new. Each byte set to 00, in order from the front, reserves sixteen more
-- numbers, before the first of them is used."
use Rattle.std.specs.Prelude.{ℕ, ◌+◌, ◌*◌, ◌-◌, ◌/◌, Bool, true, ◌&&◌, List, [], ◌∷◌, ◌++◌, take, set, replicate, eqb}
use Rattle.octets.specs.Sizes.{page_size, numbers_each}
use Rattle.octets.specs.Test.{when, if_eq, if_lt}

abbrev pub used : ℕ
used = 0

abbrev pub unused : ℕ
unused = 255

-- L/16 rounded up: how many octets reserve the numbers up to l
abbrev pub used_for : ℕ → ℕ
used_for l = (l + 15) / numbers_each

-- each octet is x
unfoldable pub only : ℕ → List ℕ → Bool
only x [] = true
only x (y ∷ s) = eqb y x && only x s

-- a run of 00 followed only by FF
unfoldable pub is_run : List ℕ → Bool
is_run [] = true
is_run (x ∷ s) = when (eqb x used) (is_run s) (only unused (x ∷ s))

-- how many octets at the front are 00
unfoldable pub leading : List ℕ → ℕ
leading [] = 0
leading (x ∷ s) = if_eq x used (leading s + 1) 0

-- a page is the first 4,096 octets of the buffer that is lent for it
unfoldable pub runs : List ℕ → Bool
runs page = is_run (take page_size page)

unfoldable pub count : List ℕ → ℕ
count page = leading (take page_size page)

-- Question 15 of a page beside a record with this L: is it a run of 00 followed only by FF, and is its count of 00 L/16 rounded up?
unfoldable pub goes_with : ℕ → List ℕ → Bool
goes_with l page = runs page && eqb (count page) (used_for l)

-- The one store of a call that leaves the number l: where no octet reserves l yet, the next one is set to 00.
unfoldable pub reserving : ℕ → List ℕ → List ℕ
reserving l page = if_lt (numbers_each * count page) l (set page (count page) used) page

-- the page with p octets of 00, and a new one
unfoldable pub page_of : ℕ → List ℕ
page_of p = replicate p used ++ replicate (page_size - p) unused

abbrev pub new_page : List ℕ
new_page = page_of 0
