-- The text of an answer on the bench: 50 or 51 before the answer line, then the frame sent, if there is one.
use Rattle.std.specs.Prelude.{ℕ, ◌+◌, ◌≡◌, List, [], ◌∷◌, ◌++◌}
use Rattle.octets.specs.Sizes.{longest_frame, longest_block}
use Rattle.octets.specs.Test.{Outcome}
use Rattle.hexadecimal.specs.Line.{hex}
use Rattle.call_spec.specs.Calls.{rooms, wire}
use Rattle.call_spec.specs.Answers.{sent_in, block_of}
use Rattle.lent_record.specs.Told.{status_of}
use Rattle.answer_text.specs.Text.{text_of, StartsWith}
use Rattle.answer_text.specs.Text as one_end
use Rattle.bench_spec.specs.Bench.{Bench, At, lent_at, line_asks, comes, end_of, bench_after, request_of_a}

-- 50 for A, 51 for B (hexadecimal)
unfoldable pub lead : ℕ → List ℕ
lead i = hex ((request_of_a + i) ∷ [])

-- The answer is about one end; its state and numbers are that end's.
unfoldable pub bench_text : Bench → Outcome At → List ℕ
bench_text w q = lead (end_of q) ++ text_of (status_of (lent_at (end_of q) w).rec (comes w q)) (block_of (comes w q)) (wire (sent_in (comes w q)))

-- two characters more than at one end
abbrev pub answer_room : ℕ
answer_room = one_end.answer_room + 2

-- what a line asks, with room for the longest frame and the longest block
abbrev pub bench_asks : Bench → List ℕ → Outcome At
bench_asks w line = line_asks w line (rooms longest_frame longest_block)

-- What the answer to a line that asks q is, and every octet that it leaves: its text at the start of out, and the bench as the line leaves it.
pub record BenchAnswered (w : Bench) (q : Outcome At) (out : List ℕ) (w' : Bench) (out' : List ℕ) (n : ℕ) : Type 0 where
  pub begins : StartsWith (bench_text w q) out out' n
  pub bench : w' ≡ bench_after (end_of q) w (comes w q)
