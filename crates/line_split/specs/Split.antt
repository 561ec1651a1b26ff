-- The lines of a text: a line feed ends each, and what stands after the last one is a line too if it has a character.
use Rattle.std.specs.Prelude.{ℕ, ◌+◌, ◌*◌, List, [], ◌∷◌, ◌++◌, take}
use Rattle.octets.specs.Sizes.{longest_frame}
use Rattle.octets.specs.Test.{if_eq}
use Rattle.line_split.specs.Lines.{line_feed}

-- the lines that a line feed ends, where part is what there is already of the first
unfoldable pub ended : List ℕ → List ℕ → List (List ℕ)
ended part [] = []
ended part (c ∷ s) = if_eq c line_feed (part ∷ ended [] s) (ended (part ++ (c ∷ [])) s)

-- and what stands after them
unfoldable pub unfinished : List ℕ → List ℕ → List ℕ
unfinished part [] = part
unfinished part (c ∷ s) = if_eq c line_feed (unfinished [] s) (unfinished (part ++ (c ∷ [])) s)

-- which is a line if it has a character
unfoldable pub last : List ℕ → List (List ℕ)
last [] = []
last (c ∷ s) = (c ∷ s) ∷ []

-- all of them
unfoldable pub lines_of : List ℕ → List (List ℕ)
lines_of s = ended [] s ++ last (unfinished [] s)

-- What is kept of a line: one character more than a line may have, which is two for each octet of the longest frame. They say all that counts of a longer
-- one: it is refused.
abbrev pub longest_kept : ℕ
longest_kept = 2 * longest_frame + 1

unfoldable pub cut : List ℕ → List ℕ
cut s = take longest_kept s
