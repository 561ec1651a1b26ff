-- What is claimed of lines: both round trips, the normal form (document 02, N1), and the edges.
use Rattle.std.specs.Prelude.{ℕ, ◌≤◌, ◌≡◌, true, List, [], ◌∷◌, length, replicate}
use Rattle.octets.specs.Sizes.{longest_frame}
use Rattle.octets.specs.Test.{first, refused, ok}
use Rattle.octets.specs.Octets.{Octets}
use Rattle.hexadecimal.specs.Line.{hex, normal, no_capitals, line_questions, read_line}

-- a written line reads as its octets
abbrev pub WrittenReads : Type 0
WrittenReads = (s : List ℕ) → Octets s → 1 ≤ length s → length s ≤ longest_frame → read_line (hex s) ≡ ok s

-- a readable line, written again, is its normal form
abbrev pub ReadWrites : Type 0
ReadWrites = (l s : List ℕ) → read_line l ≡ ok s → hex s ≡ normal l

-- what is written has no capitals
abbrev pub WrittenPlain : Type 0
WrittenPlain = (s : List ℕ) → Octets s → no_capitals (hex s) ≡ true

-- a line without capitals is its own normal form, and so is a normal form
abbrev pub PlainNormal : Type 0
PlainNormal = (l : List ℕ) → no_capitals l ≡ true → normal l ≡ l

abbrev pub NormalTwice : Type 0
NormalTwice = (l : List ℕ) → normal (normal l) ≡ normal l

-- lines with one normal form read as the same octets, or are refused by the same number
abbrev pub ReadAlike : Type 0
ReadAlike = (k l : List ℕ) → normal k ≡ normal l → read_line k ≡ read_line l

-- reading as such refuses a line of no characters by 1
abbrev pub EmptyRefused : Type 0
EmptyRefused = first (line_questions []) ≡ 1

-- The edges of question 1: 156 digits pass; 158, 1 or none do not. It comes before question 2.
pub record LengthEdges : Type 0 where
  pub longest : first (line_questions (replicate 156 48)) ≡ 0
  pub longer : first (line_questions (replicate 158 48)) ≡ 1
  pub one : first (line_questions (48 ∷ [])) ≡ 1
  pub none : EmptyRefused
  pub no_digits : first (line_questions (replicate 156 122)) ≡ 2
  pub neither : first (line_questions (replicate 155 122)) ≡ 1

-- The edges of the three ranges: 09, AF, af and Af pass, each with its number.
pub record DigitEdges : Type 0 where
  pub figures : read_line (48 ∷ 57 ∷ []) ≡ ok (9 ∷ [])
  pub capitals : read_line (65 ∷ 70 ∷ []) ≡ ok (175 ∷ [])
  pub letters : read_line (97 ∷ 102 ∷ []) ≡ ok (175 ∷ [])
  pub mixed : read_line (65 ∷ 102 ∷ []) ≡ ok (175 ∷ [])

-- The six neighbours / : @ G ` g do not, in either place.
abbrev pub Refused2 : ℕ → Type 0
Refused2 c = (read_line (c ∷ 48 ∷ []) ≡ refused 2) × (read_line (48 ∷ c ∷ []) ≡ refused 2)

abbrev pub NeighboursRefused : Type 0
NeighboursRefused = Refused2 47 × (Refused2 58 × (Refused2 64 × (Refused2 71 × (Refused2 96 × Refused2 103))))
