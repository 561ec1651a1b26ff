-- The text that answers an input: line by line, in order. Both programs are such; each says what answers a line.
use Rattle.std.specs.Prelude.{ℕ, ◌≡◌, List, [], ◌∷◌, ◌++◌, length}
use Rattle.octets.specs.Octets.{put}
use Rattle.line_split.specs.Split.{lines_of, cut}

-- What answers lines: a state, the text that it says to a line, and the state after that.
pub record Answering : Type 1 where
  pub State : Type 0
  pub next : State → List ℕ → State
  pub says : State → List ℕ → List ℕ

-- A line is answered: the state after it, and what it says at the start of the buffer.
pub record Answered (a : Answering) (s : a.State) (line out : List ℕ) (s' : a.State) (out' : List ℕ) (n : ℕ) : Type 0 where
  pub state : s' ≡ a.next s line
  pub count : n ≡ length (a.says s line)
  pub buffer : out' ≡ put out 0 (a.says s line)

-- the state after lines
unfoldable pub state_after : (a : Answering) → a.State → List (List ℕ) → a.State
state_after a s [] = s
state_after a s (l ∷ ls) = state_after a (a.next s l) ls

-- the answers to lines, in order
unfoldable pub answers : (a : Answering) → a.State → List (List ℕ) → List ℕ
answers a s [] = []
answers a s (l ∷ ls) = a.says s l ++ answers a (a.next s l) ls

-- THE text of an input.
unfoldable pub input_text : (a : Answering) → a.State → List ℕ → List ℕ
input_text a s input = answers a s (lines_of input)

-- What is kept of a line says all that counts of it. It is proved of both programs, so that their texts speak of whole lines.
pub record Cuts (a : Answering) : Type 0 where
  pub next : (s : a.State) (l : List ℕ) → a.next s (cut l) ≡ a.next s l
  pub says : (s : a.State) (l : List ℕ) → a.says s (cut l) ≡ a.says s l
