-- What the parts of such a call do. No entry point's contract needs this.
use Rattle.std.specs.Prelude.{ℕ, ◌+◌, ◌*◌, ◌≤◌, ◌<◌, ◌≡◌, Bool, true, Option, None, Some, List, ltb, length, drop}
use Rattle.octets.specs.Sizes.{longest_frame, longest_block, page_size}
use Rattle.octets.specs.Test.{if_eq, Outcome, refused, ok}
use Rattle.octets.specs.Octets.{put}
use Rattle.protocol.specs.Table.{Step}
use Rattle.call_spec.specs.Calls.{Arguments, Rooms, given, buffer_after}
use Rattle.call_spec.specs.Claim.{Lent}
use Rattle.call_spec.specs.Claim as act
use Rattle.frame.specs.declared.Header.{Header}
use Rattle.call_spec.specs.declared.Call.{Call}
use Rattle.call_spec.specs.declared.Call.TheVariants.{Request, Receive}
use Rattle.call_spec.specs.Answers.{block_of, block_buffer_after}
use Rattle.endpoint.specs.Record.{record_size}
use Rattle.lent_record.specs.declared.Answer.{Answer}
use Rattle.lent_record.specs.Record.{format, paged_for}
use Rattle.bench_log.specs.Log.{place_size, places, log_size, length_at, frame_logged, place}
use Rattle.bench_spec.specs.declared.Order.{Order}
use Rattle.bench_spec.specs.declared.Order.TheVariants as order
use Rattle.bench_spec.specs.Bench.{end_at, call_outcome, log_after}
use Rattle.lent_record.specs.Told.{lent_after}
use Rattle.bench_call.specs.declared.BenchAnswer.{BenchAnswer}
use Rattle.bench_call.specs.Answer.{bench_block_at, bench_answer_of}

-- what a call at an end comes to
abbrev pub outcome_at : Lent → ℕ → Arguments → Outcome Step
outcome_at l count c = call_outcome l count (act.call c)

-- 11, 12 and 15 of a call at an end are passed
abbrev pub CallReady : Lent → List ℕ → List ℕ → Type 0
CallReady r out up =
    (((record_size ≤ length r.rec) × (format.sound r.rec ≡ true)) × ((page_size ≤ length r.page) × (paged_for r.rec r.page ≡ true)))
    × ((longest_frame ≤ length out) × (longest_block ≤ length up))

-- What there is to do at an end: a call, a restart where there is none, or nothing, by the number of the refusal.
abbrev pub Task : Type 0
Task = Outcome (Option Call)

-- what an order has an end do
unfoldable pub task_of : Outcome Order → Task
task_of (refused n) = refused n
task_of (ok (order.Request i)) = ok (Some Request)
task_of (ok (order.Deliver n)) = ok (Some Receive)
task_of (ok (order.Restart i)) = ok None

-- A restart and a refusal leave the buffer for a block alone, as receiving does.
unfoldable pub call_by : Task → Call
call_by (refused n) = Receive
call_by (ok None) = Receive
call_by (ok (Some c)) = c

-- what that comes to at an end, with these octets
unfoldable pub task_outcome : Task → Lent → ℕ → List ℕ → Rooms → Outcome Step
task_outcome (refused n) l count s room = refused n
task_outcome (ok None) l count s room = call_outcome l count (act.restart l.rec)
task_outcome (ok (Some c)) l count s room = outcome_at l count (given c s room)

abbrev pub TaskReady : Task → Lent → List ℕ → List ℕ → Type 0
TaskReady (refused n) l out up = Unit {0}
TaskReady (ok None) l out up = Unit {0}
TaskReady (ok (Some c)) l out up = CallReady l out up

-- The octets of an order, where its line has the octets s: those of a request after its kind, or those of the frame in the log.
unfoldable pub octets_in : Outcome Order → List ℕ → List ℕ → List ℕ
octets_in (refused n) s log = s
octets_in (ok (order.Request i)) s log = drop 1 s
octets_in (ok (order.Deliver n)) s log = frame_logged n log
octets_in (ok (order.Restart i)) s log = s

-- what they come to
abbrev pub order_outcome : Outcome Order → Lent → List ℕ → ℕ → List ℕ → Rooms → Outcome Step
order_outcome o l log count s room = task_outcome (task_of o) l count (octets_in o s log) room

-- the frame's place is one of the log
abbrev pub Placed : Outcome Order → Type 0
Placed (refused n) = Unit {0}
Placed (ok (order.Request i)) = Unit {0}
Placed (ok (order.Deliver n)) = n < places
Placed (ok (order.Restart i)) = Unit {0}

-- the octets are there
abbrev pub Readable : Outcome Order → List ℕ → List ℕ → Type 0
Readable (refused n) s log = Unit {0}
Readable (ok (order.Request i)) s log = 1 ≤ length s
Readable (ok (order.Deliver n)) s log = (log_size ≤ length log) × ((n < places) × (length_at n log ≤ longest_frame))
Readable (ok (order.Restart i)) s log = Unit {0}

-- an order where all questions up to 13 are passed
abbrev pub OrderReady : Outcome Order → Lent → List ℕ → List ℕ → ℕ → List ℕ → List ℕ → Type 0
OrderReady (refused n) l s log count out up = Unit {0}
OrderReady (ok (order.Request i)) l s log count out up = CallReady l out up × ((log_size ≤ length log) × (1 ≤ length s))
OrderReady (ok (order.Deliver n)) l s log count out up =
    CallReady l out up × ((log_size ≤ length log) × (((n < count) × (count ≤ places)) × (length_at n log ≤ longest_frame)))
OrderReady (ok (order.Restart i)) l s log count out up = Unit {0}

-- 14 of a planned reply
unfoldable pub has_place : Option Header → ℕ → Bool
has_place None count = true
has_place (Some h) count = ltb count places

-- the log and the count after a call that sent these octets, none where it sent nothing
unfoldable pub noted : ℕ → List ℕ → ℕ → List ℕ → List ℕ
noted i log count s = if_eq (length s) 0 log (put log (count * place_size) (place i s))

unfoldable pub noted_count : ℕ → ℕ → ℕ
noted_count count sent = if_eq sent 0 count (count + 1)

-- where the block handed up stands in the log, which has it from start on if there is one
unfoldable pub block_place : ℕ → ℕ → ℕ
block_place start block = if_eq block 0 0 start

-- the answer of a line whose call at end i is told like this
unfoldable pub answer_from : ℕ → Answer → ℕ → ℕ → BenchAnswer
answer_from i a start count =
    record { end = end_at i; status = a.status; sent = a.sent; at = block_place start a.block; block = a.block; count = noted_count count a.sent }

-- a call at end i with this outcome, of a line whose frame, if it delivers one, has its block in the log from start on
pub record Does (i : ℕ) (l : Lent) (log : List ℕ) (count start : ℕ) (c : Call) (o : Outcome Step) (out up : List ℕ) (l' : Lent) (log' out' up' : List ℕ) (r : BenchAnswer)
    : Type 0 where
  pub answer : r ≡ bench_answer_of i l.rec count start o
  pub end : l' ≡ lent_after l o
  pub entered : log' ≡ log_after i log count o
  pub buffer : out' ≡ buffer_after out o
  pub block_buffer : up' ≡ block_buffer_after c up o
  pub handed : bench_block_at r.at r.block log' up' ≡ block_of o
