-- An end and its number, and the end that a line's answer is about.
use Prim.Native.Nat.{ℕ, zero, suc, ◌≤◌}
use mathlib.Core.Path.{◌≡◌, refl}
use mathlib.Core.Bool.{Bool, true, false}
use mathlib.Core.List.{List, [], ◌∷◌}
use native.Mathlib.Omega.{arith}
use Rattle.octets.specs.Test.{when, first, Outcome, refused, ok, outcome, and_then}
use Rattle.octets.proofs.Outcomes.{after-question}
use Rattle.hexadecimal.specs.Line.{unhex}
use Rattle.call_spec.specs.Calls.{Rooms}
use Rattle.bench_log.specs.Log.{holds}
use Rattle.bench_spec.specs.declared.End.{End}
use Rattle.bench_spec.specs.declared.End.TheVariants.{A, B}
use Rattle.bench_spec.specs.declared.Order.{Order}
use Rattle.bench_spec.specs.declared.Order.TheVariants as order
use Rattle.bench_spec.specs.Bench.{end_number, end_at, Bench, At, delivery, order_of, order_asks, octets_ask, line_asks, end_of}

pub at_most_one : (e : End) → end_number e ≤ 1
at_most_one A = omega arith
at_most_one B = omega arith

pub same_end : (e : End) → end_at (end_number e) ≡ e
same_end A = refl
same_end B = refl

pub same_number : (i : ℕ) → i ≤ 1 → end_number (end_at i) ≡ i
same_number zero h = refl
same_number (suc zero) h = refl
same_number (suc (suc i)) h = absurd (omega arith)

-- A line's answer is about an end.
abbrev Known : Outcome At → Type 0
Known q = end_of q ≤ 1

none : (n : ℕ) → Known (refused n)
unfolding end_of
none n = omega arith

by_13 : (b : Bool) (x : At) → x.0 ≤ 1 → Known (outcome (first ((13, b) ∷ [])) x)
unfolding first when outcome end_of
by_13 true x h = h
by_13 false x h = omega arith

order_known : (w : Bench) (s : List ℕ) (room : Rooms) (o : Order) → Known (order_asks w s room o)
unfolding order_asks delivery end_of
order_known w s room (order.Request e) = at_most_one e
order_known w s room (order.Deliver n) = by_13 (holds w.count n w.log) _ (omega arith)
order_known w s room (order.Restart e) = at_most_one e

octets_known : (w : Bench) (s : List ℕ) (room : Rooms) (o : Outcome Order) → Known (and_then o (order_asks w s room))
unfolding and_then
octets_known w s room (refused n) = none n
octets_known w s room (ok o) = order_known w s room o

pub known : (w : Bench) (line : List ℕ) (room : Rooms) → Known (line_asks w line room)
unfolding line_asks octets_ask
known w line room = after-question Known none _ _ (octets_known w (unhex line) room (order_of (unhex line)))
