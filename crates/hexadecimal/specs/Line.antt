-- A line of text and the octets that it stands for: hexadecimal, written in small letters and read in either case (document 01, "Frames"; questions 1 and
-- 2; document 02, N1).
use Rattle.std.specs.Prelude.{ℕ, ◌+◌, ◌-◌, ◌*◌, ◌/◌, ◌%◌, Bool, true, ◌&&◌, ◌||◌, not, List, [], ◌∷◌, map, length, leb, eqb}
use Rattle.octets.specs.Sizes.{longest_frame}
use Rattle.octets.specs.Test.{when, if_lt, in_range, Question, first, Outcome, outcome}

-- the digit of a number below 16: 0 to 9, then a to f
unfoldable pub digit : ℕ → ℕ
digit n = if_lt n 10 (48 + n) (87 + n)

-- is the character one of A-F?
unfoldable pub is_capital : ℕ → Bool
is_capital c = in_range 65 70 c

-- is the character one of 0-9, A-F, a-f?
unfoldable pub is_digit : ℕ → Bool
is_digit c = in_range 48 57 c || (is_capital c || in_range 97 102 c)

-- the number that a digit stands for
unfoldable pub value : ℕ → ℕ
value c = if_lt c 65 (c - 48) (if_lt c 97 (c - 55) (c - 87))

-- the digits of octets, the high half of each first
unfoldable pub hex : List ℕ → List ℕ
hex [] = []
hex (b ∷ s) = digit (b / 16) ∷ digit (b % 16) ∷ hex s

-- the octets that digits stand for, two digits an octet
unfoldable pub unhex : List ℕ → List ℕ
unhex [] = []
unhex (x ∷ []) = []
unhex (x ∷ y ∷ l) = (value x * 16 + value y) ∷ unhex l

-- a capital made small
unfoldable pub small : ℕ → ℕ
small c = when (is_capital c) (c + 32) c

-- the normal form of a line, which is what its octets are written as: its capitals made small
abbrev pub normal : List ℕ → List ℕ
normal l = map small l

unfoldable pub all : (ℕ → Bool) → List ℕ → Bool
all p [] = true
all p (c ∷ l) = p c && all p l

abbrev pub no_capitals : List ℕ → Bool
no_capitals l = all (λ (c : ℕ). not (is_capital c)) l

-- has the line 2 to 156 characters, two for each octet of the longest frame, and an even number?
unfoldable pub length_ok : ℕ → Bool
length_ok n = in_range 2 (2 * longest_frame) n && eqb (n % 2) 0

-- Questions 1 and 2 of a line.
abbrev pub line_questions : List ℕ → List Question
line_questions l =
    (1, length_ok (length l))
    ∷ (2, all is_digit l)
    ∷ []

-- a line's octets, or the refusal
unfoldable pub read_line : List ℕ → Outcome (List ℕ)
read_line l = outcome (first (line_questions l)) (unhex l)

-- the same into a lent buffer, which question 11 asks for first
unfoldable pub read_into : List ℕ → List ℕ → Outcome (List ℕ)
read_into l out = outcome (first ((11, leb longest_frame (length out)) ∷ line_questions l)) (unhex l)
