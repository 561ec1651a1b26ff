-- What a bench line answers, and every octet that it leaves.
use Rattle.std.specs.Prelude.{ℕ, ◌≡◌, List, [], length}
use Rattle.octets.specs.Test.{first, Outcome, refused}
use Rattle.hexadecimal.specs.Line.{unhex}
use Rattle.call_spec.specs.Calls.{Rooms, rooms}
use Rattle.call_spec.specs.Claim.{Lent}
use Rattle.lent_record.specs.Told.{status_of}
use Rattle.bench_spec.specs.Bench.{Bench, At, end_at, lent_at, neither, line_asks, comes, end_of}
use Rattle.bench_checks.specs.Ready.{ready_questions}
use Rattle.bench_call.specs.declared.BenchAnswer.{BenchAnswer}
use Rattle.bench_order.specs.Performed.{line_start, Performed}

-- A line's text: all questions up to 13, in document 01's order, give the call.
abbrev pub asks_lent : Bench → List ℕ → List ℕ → List ℕ → Outcome At
asks_lent w line out up = line_asks w line (rooms (length out) (length up))

abbrev pub LinePerformed : Bench → List ℕ → List ℕ → List ℕ → Lent → Lent → List ℕ → List ℕ → List ℕ → BenchAnswer → Type 0
LinePerformed w line out up a b log out' up' r = Performed w (asks_lent w line out up) (line_start (unhex line)) out up a b log out' up' r

-- What a line that k refuses leaves: both ends, with their records and pages, the log and the buffers, as they are. Nothing is sent and no block handed up;
-- the answer tells k, how many places are in use, and how the end i stands.
pub record LeftAlone (w : Bench) (i k : ℕ) (out up : List ℕ) (a b : Lent) (log out' up' : List ℕ) (r : BenchAnswer) : Type 0 where
  pub end_a : a ≡ w.a
  pub end_b : b ≡ w.b
  pub frames : log ≡ w.log
  pub buffer : out' ≡ out
  pub block_buffer : up' ≡ up
  pub answer : r ≡ record { end = end_at i; status = status_of (lent_at i w).rec (refused k); sent = 0; at = 0; block = 0; count = w.count }

-- The claim, of every bench and every line.
abbrev pub RefusedLeavesAll : Type 0
RefusedLeavesAll =
    (w : Bench) (line out up : List ℕ) (a b : Lent) (log out' up' : List ℕ) (r : BenchAnswer) → LinePerformed w line out up a b log out' up' r
    → (k : ℕ) → comes w (asks_lent w line out up) ≡ refused k → LeftAlone w (end_of (asks_lent w line out up)) k out up a b log out' up' r

-- An empty line keeps 1 (document 02, N5), where 11, 12 and 15 are passed.
abbrev pub EmptyLineRefused : Type 0
EmptyLineRefused = (w : Bench) (room : Rooms) → first (ready_questions neither w room) ≡ 0 → line_asks w [] room ≡ refused 1
