-- Lines in a stream of text.
use Rattle.std.specs.Prelude.{ℕ, suc, ◌+◌, ◌-◌, ◌≡◌, List, [], ◌∷◌, length, take}
use Rattle.octets.specs.Test.{if_eq}
use Rattle.octets.specs.Octets.{put}

-- the character that ends a line
abbrev pub line_feed : ℕ
line_feed = 10

-- how many characters stand before the first line feed; all where there is none
unfoldable pub line_length : List ℕ → ℕ
line_length [] = 0
line_length (c ∷ s) = if_eq c line_feed 0 (suc (line_length s))

-- A piece after the first n characters of a line, as much of it as there is room for.
pub record Kept (line : List ℕ) (n : ℕ) (piece line' : List ℕ) (m : ℕ) : Type 0 where
  pub count : m ≡ n + length (take (length line - n) piece)
  pub buffer : line' ≡ put line n (take (length line - n) piece)
