-- How an order is decided. No entry point's contract needs this.
use Rattle.std.specs.Prelude.{ℕ, ◌-◌, ◌≤◌, ◌<◌, List, length}
use Rattle.octets.specs.Test.{when, first, Outcome, refused, ok, refusing, and_then}
use Rattle.call_spec.specs.Calls.{Rooms}
use Rattle.bench_log.specs.Log.{places, log_size, sender_at, holds}
use Rattle.bench_spec.specs.declared.Order.{Order}
use Rattle.bench_spec.specs.declared.Order.TheVariants as order
use Rattle.bench_spec.specs.Bench.{Bench, At, end_number, order_asks, end_restarted}
use Rattle.bench_checks.specs.Ready.{ready_questions}

-- 11, 12 and 15, then what the order asks
unfoldable pub asks_ready : Bench → List ℕ → Rooms → Outcome Order → Outcome At
asks_ready w s room o = refusing (first (ready_questions (end_restarted o) w room)) (and_then o (order_asks w s room))

-- a request stands after the kind of its line
abbrev pub Asked : Outcome Order → List ℕ → Type 0
Asked (refused n) s = Unit {0}
Asked (ok (order.Request i)) s = 1 ≤ length s
Asked (ok (order.Deliver n)) s = Unit {0}
Asked (ok (order.Restart i)) s = Unit {0}

-- 13
unfoldable pub found : List ℕ → ℕ → Order → Outcome Order
found log count (order.Request i) = ok (order.Request i)
found log count (order.Deliver n) = when (holds count n log) (ok (order.Deliver n)) (refused 13)
found log count (order.Restart i) = ok (order.Restart i)

abbrev pub Findable : Order → List ℕ → ℕ → Type 0
Findable (order.Request i) log count = Unit {0}
Findable (order.Deliver n) log count = (log_size ≤ length log) × (count ≤ places)
Findable (order.Restart i) log count = Unit {0}

abbrev pub FindableIn : Outcome Order → List ℕ → ℕ → Type 0
FindableIn (refused n) log count = Unit {0}
FindableIn (ok o) log count = Findable o log count

-- the order by all questions up to 13, where none of them refuses it
unfoldable pub decided : Bench → Rooms → Outcome Order → Outcome Order
decided w room o = refusing (first (ready_questions (end_restarted o) w room)) (and_then o (found w.log w.count))

-- the end that a decided order is for
unfoldable pub end_for : Outcome Order → List ℕ → ℕ
end_for (refused n) log = 0
end_for (ok (order.Request i)) log = end_number i
end_for (ok (order.Deliver n)) log = 1 - sender_at n log
end_for (ok (order.Restart i)) log = end_number i

abbrev pub EndKnown : Outcome Order → List ℕ → Type 0
EndKnown (refused n) log = Unit {0}
EndKnown (ok (order.Request i)) log = Unit {0}
EndKnown (ok (order.Deliver n)) log = ((log_size ≤ length log) × (n < places)) × (sender_at n log ≤ 1)
EndKnown (ok (order.Restart i)) log = Unit {0}
