-- The text of an answer: one line, then the frame sent, if there is one.
use Rattle.std.specs.Prelude.{ℕ, ◌+◌, ◌*◌, ◌≡◌, List, [], ◌∷◌, ◌++◌, length}
use Rattle.octets.specs.Sizes.{longest_frame, longest_block}
use Rattle.octets.specs.Octets.{put, lay}
use Rattle.hexadecimal.specs.Line.{hex}
use Rattle.frame.specs.Frame.{Block}
use Rattle.call_spec.specs.declared.Status.{Status}

-- octets as a line of output
unfoldable pub as_line : List ℕ → List ℕ
as_line s = hex s ++ (10 ∷ [])

-- A block with its count. One that is handed up has 1 to 64 octets, so an empty one is none.
unfoldable pub counted : Block → List ℕ
counted [] = []
counted (b ∷ s) = length (b ∷ s) ∷ b ∷ s

-- 80 (hexadecimal) plus the number, state, notice, L, D, then count and block if one is handed up
unfoldable pub answer_octets : Status → Block → List ℕ
answer_octets t block =
    lay (1 ∷ 1 ∷ 1 ∷ 4 ∷ 4 ∷ []) ((128 + t.number) ∷ t.state ∷ t.notice ∷ t.local ∷ t.remote ∷ []) ++ counted block

-- the frame sent as a line of its own; nothing where nothing is sent
unfoldable pub frame_line : List ℕ → List ℕ
frame_line [] = []
frame_line (b ∷ s) = as_line (b ∷ s)

-- the answer line
abbrev pub answer_line : Status → Block → List ℕ
answer_line t block = as_line (answer_octets t block)

unfoldable pub text_of : Status → Block → List ℕ → List ℕ
text_of t block sent = answer_line t block ++ frame_line sent

-- The octets of an answer line: its numbers, the count and the longest block.
abbrev pub longest_answer : ℕ
longest_answer = 11 + 1 + longest_block

-- The room that an answer asks for: the answer line, with its line feed, and the line of the longest frame.
abbrev pub answer_room : ℕ
answer_room = (2 * longest_answer + 1) + (2 * longest_frame + 1)

-- s stands at the start of the buffer, and n is its length
pub record StartsWith (s out out' : List ℕ) (n : ℕ) : Type 0 where
  pub count : n ≡ length s
  pub buffer : out' ≡ put out 0 s
