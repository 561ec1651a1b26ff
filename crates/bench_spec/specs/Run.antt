-- A run of the bench as a list of calls and restarts (document 01, "Demand 3": a bench run, its refused lines left out, is such a list).
use Rattle.std.specs.Prelude.{ℕ, ◌≡◌, List, [], ◌∷◌, ◌++◌}
use Rattle.octets.specs.Test.{if_eq, Outcome, refused, ok}
use Rattle.protocol.specs.Endpoint.{fresh}
use Rattle.protocol.specs.Table.{Step}
use Rattle.protocol.specs.World.{Entry, at_a, at_b, Two, run, AllDue}
use Rattle.protocol.specs.Claim.{Demand, NeverTwice}
use Rattle.page.specs.Page.{new_page}
use Rattle.call_spec.specs.Calls.{Rooms}
use Rattle.call_spec.specs.Claim.{Lent, lent, LentAct}
use Rattle.lent_record.specs.Record.{format, ends}
use Rattle.bench_spec.specs.Bench.{Bench, At, line_asks, comes, end_of, bench_after}

-- a line's text, and the lengths of the buffers for a frame and for a block that are lent with it
abbrev pub LentLine : Type 0
LentLine = List ℕ × Rooms

-- the bench after one line, and after all
unfoldable pub line_after : Bench → LentLine → Bench
line_after w l = let q = line_asks w l.0 l.1 in bench_after (end_of q) w (comes w q)

unfoldable pub lines_after : Bench → List LentLine → Bench
lines_after w [] = w
lines_after w (l ∷ ls) = lines_after (line_after w l) ls

-- the two ends of a run, and an entry of its list of calls
abbrev pub RunEnds : Type 0
RunEnds = Two ends ends

abbrev pub RunEntry : Type 0
RunEntry = Entry LentAct LentAct

-- a call at an end, as such an entry
unfoldable pub entry : At → RunEntry
entry x = if_eq x.0 0 (at_a x.1) (at_b x.1)

-- the call that a line makes; a refused line makes none
unfoldable pub entries_of : Outcome At → Outcome Step → List RunEntry
entries_of (refused n) o = []
entries_of (ok x) (refused n) = []
entries_of (ok x) (ok y) = entry x ∷ []

-- the calls that the lines of a run make
unfoldable pub calls_of : Bench → List LentLine → List RunEntry
calls_of w [] = []
calls_of w (l ∷ ls) = let q = line_asks w l.0 l.1 in entries_of q (comes w q) ++ calls_of (line_after w l) ls

-- A fresh end with a new page, whatever follows them in their buffers, which is p.
abbrev pub new_lent : Lent → Lent
new_lent p = lent (format.octets fresh ++ p.rec) (new_page ++ p.page)

-- two of them
abbrev pub new_ends : Lent → Lent → RunEnds
new_ends p q = record { a = record { rec = new_lent p; history = [] }; b = record { rec = new_lent q; history = [] } }

-- They and an empty log, whatever stands in the log's places.
unfoldable pub new_bench : Lent → Lent → List ℕ → Bench
new_bench p q log = record { a = new_lent p; b = new_lent q; log = log; count = 0 }

-- A run is such a list of calls, it leaves the records and pages that the list leaves, demand 3 holds of it, and no number is used twice.
pub record Holds (p q : Lent) (log : List ℕ) (lines : List LentLine) : Type 0 where
  pub due : AllDue ends ends (new_ends p q) (calls_of (new_bench p q log) lines)
  pub end_a : (lines_after (new_bench p q log) lines).a ≡ (run ends ends (new_ends p q) (calls_of (new_bench p q log) lines)).a.rec
  pub end_b : (lines_after (new_bench p q log) lines).b ≡ (run ends ends (new_ends p q) (calls_of (new_bench p q log) lines)).b.rec
  pub demand : Demand ends ends (new_ends p q) (calls_of (new_bench p q log) lines)
  pub once_a : NeverTwice (run ends ends (new_ends p q) (calls_of (new_bench p q log) lines)).a.history
  pub once_b : NeverTwice (run ends ends (new_ends p q) (calls_of (new_bench p q log) lines)).b.history
