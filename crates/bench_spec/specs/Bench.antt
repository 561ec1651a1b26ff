-- The bench: two ends, every frame ever sent, and what a line comes to (document 01, "Bench").
use Rattle.std.specs.Prelude.{ℕ, zero, suc, ◌+◌, ◌-◌, ◌*◌, Bool, true, false, Option, None, Some, Result, Ok, Err, List, [], ◌∷◌, ltb, leb, eqb, length, drop, get_or}
use Rattle.octets.specs.Sizes.{longest_frame, longest_block, page_size}
use Rattle.octets.specs.Test.{when, if_eq, if_lt, in_range, Question, first, Outcome, refused, ok, outcome, refusing, and_then}
use Rattle.octets.specs.Octets.{put, field}
use Rattle.hexadecimal.specs.Line.{unhex, line_questions}
use Rattle.frame.specs.Read.{kind_of}
use Rattle.protocol.specs.Table.{Sent, nothing, frame, Step}
use Rattle.call_spec.specs.declared.Call.TheVariants.{Request, Receive}
use Rattle.call_spec.specs.Calls.{Rooms, given, wire}
use Rattle.call_spec.specs.Claim.{Lent, LentAct, call, restart, comes_by}
use Rattle.page.specs.Page.{runs}
use Rattle.lent_record.specs.Record.{format, paged_for}
use Rattle.lent_record.specs.Told.{lent_after}
use Rattle.bench_log.specs.Log.{place_size, places, log_size, sender_at, frame_logged, holds, place}
use Rattle.bench_spec.specs.declared.End.{End}
use Rattle.bench_spec.specs.declared.End.TheVariants.{A, B}
use Rattle.bench_spec.specs.declared.Order.{Order}
use Rattle.bench_spec.specs.declared.Order.TheVariants as order

-- two ends with their records and pages, the log, and how many places of it are in use
pub record Bench : Type 0 where
  pub a : Lent
  pub b : Lent
  pub log : List ℕ
  pub count : ℕ

abbrev pub bench_of : Lent → Lent → List ℕ → ℕ → Bench
bench_of a b log count = record { a = a; b = b; log = log; count = count }

-- the number of an end, and the end of a number: A is 0, B is 1. Definitions speak of ends by number, as the log and the lines do.
abbrev pub end_number : End → ℕ
end_number A = 0
end_number B = 1

abbrev pub end_at : ℕ → End
end_at zero = A
end_at (suc n) = B

-- What a Result says whose error is the number that is told: the value, or the refusal by that number, whichever it is.
abbrev pub numbered : {A : Type 0} → Result A ℕ → Outcome A
numbered (Ok x) = ok x
numbered (Err n) = refused n

-- an end by its number
unfoldable pub lent_at : ℕ → Bench → Lent
lent_at i w = if_eq i 0 w.a w.b

-- 11 of the records, the pages and the log: what both the line and the question ask first
abbrev pub buffer_questions : Bench → List Question → List Question
buffer_questions w rest =
    (11, leb format.size (length w.a.rec))
    ∷ (11, leb format.size (length w.b.rec))
    ∷ (11, leb page_size (length w.a.page))
    ∷ (11, leb page_size (length w.b.page))
    ∷ (11, leb log_size (length w.log))
    ∷ rest

-- 11 of the buffers for a frame and for a block, which a line asks
abbrev pub room_questions : Rooms → List Question → List Question
room_questions room rest = (11, leb longest_frame room.frame) ∷ (11, leb longest_block room.block) ∷ rest

-- 12 of the records and of the count, 15 of the pages (N6). The record of the end k, which is restarted, is not looked at: 12 is not asked of it,
-- nor does its L count for 15; k is neither end where none is restarted.
abbrev pub neither : ℕ
neither = 2

-- the number k of the end that is restarted, if one is
abbrev pub restarted_number : Option End → ℕ
restarted_number None = neither
restarted_number (Some e) = end_number e

abbrev pub sound_at : ℕ → ℕ → Lent → Bool
sound_at k i r = when (eqb k i) true (format.sound r.rec)

abbrev pub paged_at : ℕ → ℕ → Lent → Bool
paged_at k i r = when (eqb k i) (runs r.page) (paged_for r.rec r.page)

abbrev pub sound_questions : ℕ → Bench → List Question → List Question
sound_questions k w rest =
    (12, sound_at k 0 w.a)
    ∷ (12, sound_at k 1 w.b)
    ∷ (12, leb w.count places)
    ∷ (15, paged_at k 0 w.a)
    ∷ (15, paged_at k 1 w.b)
    ∷ rest

-- a call at an end, or its restart
abbrev pub At : Type 0
At = ℕ × LentAct

-- Frame n of the log, delivered to the end that did not send it, if the log holds it (13). room has the lengths of the lent buffers.
unfoldable pub delivery : Bench → ℕ → Rooms → Outcome At
delivery w n room = outcome (first ((13, holds w.count n w.log) ∷ [])) (1 - sender_at n w.log, call (given Receive (frame_logged n w.log) room))

-- the kinds of a bench line: 50, 51, 52 and 53 in hexadecimal
abbrev pub request_of_a : ℕ
request_of_a = 80

abbrev pub request_of_b : ℕ
request_of_b = 81

abbrev pub deliver : ℕ
deliver = 82

abbrev pub restart_kind : ℕ
restart_kind = 83

-- the octet that names an end, 50 or 51: the second of a line 53
abbrev pub end_named : List ℕ → ℕ
end_named s = get_or s 1 0

-- Line 53 and such an octet: a restart of that end (N6). None at all: 4; another one: 3, also where more follows; more after a right one: 4.
unfoldable pub restart_order : List ℕ → Outcome Order
restart_order s =
    if_lt (length s) 2 (refused 4)
    (when (in_range request_of_a request_of_b (end_named s)) (if_eq (length s) 2 (ok (order.Restart (end_at (end_named s - request_of_a)))) (refused 4))
    (refused 3))

-- Line 50 or 51 and a request: end A or B. Line 52 and a number of 2 octets: deliver that frame. Line 53 and an end: restart it.
unfoldable pub order_of : List ℕ → Outcome Order
order_of s =
    if_eq (kind_of s) request_of_a (ok (order.Request A))
    (if_eq (kind_of s) request_of_b (ok (order.Request B))
    (if_eq (kind_of s) deliver (if_eq (length s) 3 (ok (order.Deliver (field 2 1 s))) (refused 4))
    (if_eq (kind_of s) restart_kind (restart_order s)
    (refused 3))))

-- what an order asks of the bench, with the octets s of its line
unfoldable pub order_asks : Bench → List ℕ → Rooms → Order → Outcome At
order_asks w s room (order.Request e) = ok (end_number e, call (given Request (drop 1 s) room))
order_asks w s room (order.Deliver n) = delivery w n room
order_asks w s room (order.Restart e) = ok (end_number e, restart (lent_at (end_number e) w).rec)

unfoldable pub octets_ask : Bench → List ℕ → Rooms → Outcome At
octets_ask w s room = and_then (order_of s) (order_asks w s room)

-- the end that an order restarts
unfoldable pub end_restarted : Outcome Order → ℕ
end_restarted (refused n) = neither
end_restarted (ok (order.Request e)) = neither
end_restarted (ok (order.Deliver n)) = neither
end_restarted (ok (order.Restart e)) = end_number e

-- and the octets of a line, past 3 and 4
unfoldable pub restarted_by : List ℕ → ℕ
restarted_by s = end_restarted (order_of s)

-- and a line, past 1 and 2 too
unfoldable pub restarted_end : List ℕ → ℕ
restarted_end line = if_eq (first (line_questions line)) 0 (restarted_by (unhex line)) neither

-- What a line asks, by all questions up to 13.
unfoldable pub line_asks : Bench → List ℕ → Rooms → Outcome At
line_asks w line room =
    refusing
    (first (buffer_questions w (room_questions room (sound_questions (restarted_end line) w (line_questions line)))))
    (octets_ask w (unhex line) room)

-- does the step send a frame?
unfoldable pub sends : Sent → Bool
sends nothing = false
sends (frame f) = true

-- 14, last and only if the step sends: has the log a place left?
unfoldable pub logged : ℕ → Step → Outcome Step
logged count x = outcome (first ((14, when (sends x.sent) (ltb count places) true) ∷ [])) x

-- what a call at this end, or its restart, comes to, with so many places in use
unfoldable pub call_outcome : Lent → ℕ → LentAct → Outcome Step
call_outcome r count c = and_then (comes_by format r c) (logged count)

unfoldable pub comes : Bench → Outcome At → Outcome Step
comes w q = and_then q (λ (x : At). call_outcome (lent_at x.0 w) w.count x.1)

-- The end that the answer is about: B if 1 and 2 are passed and the line starts with 51, or if 13 is passed and B receives, or if a line 53 restarts
-- it; else A.
unfoldable pub end_of : Outcome At → ℕ
end_of (refused n) = 0
end_of (ok x) = x.0

-- A step that sends enters its frame in the next place of the log, and one place more is in use.
unfoldable pub log_after : ℕ → List ℕ → ℕ → Outcome Step → List ℕ
log_after i log count (refused n) = log
log_after i log count (ok x) = when (sends x.sent) (put log (count * place_size) (place i (wire x.sent))) log

unfoldable pub count_after : ℕ → Outcome Step → ℕ
count_after count (refused n) = count
count_after count (ok x) = when (sends x.sent) (count + 1) count

-- the bench after a call at end i with this outcome, or its restart, which leaves the page: its octets reserve the number already
unfoldable pub bench_after : ℕ → Bench → Outcome Step → Bench
bench_after i w o =
    record {
      a = if_eq i 0 (lent_after w.a o) w.a;
      b = if_eq i 0 w.b (lent_after w.b o);
      log = log_after i w.log w.count o;
      count = count_after w.count o;
    }
