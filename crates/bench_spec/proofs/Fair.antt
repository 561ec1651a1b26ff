-- What an accepted line asks: a call at an end, which is due if it is a delivery.
use Prim.Native.Nat.{ℕ, ◌≤◌}
use mathlib.Core.Path.{◌≡◌, refl, subst}
use mathlib.Core.Logic.{◌≢◌}
use mathlib.Core.List.{List}
use native.Mathlib.Omega.{arith}
use borrow.Author.Tests.{leb-true}
use lib.ListN.{length, drop}
use Rattle.octets.specs.Test.{Outcome, refused, ok, and_then}
use Rattle.octets.proofs.Test.{if-eq, accepted, all_yes, passing}
use Rattle.hexadecimal.specs.Line.{unhex}
use Rattle.protocol.specs.World.{DueAt}
use Rattle.call_spec.specs.declared.Call.TheVariants.{Request, Receive}
use Rattle.call_spec.specs.Calls.{Rooms, given}
use Rattle.call_spec.specs.Claim.{Lent, LentAct, call, restart, cut}
use Rattle.lent_record.specs.Record.{ends}
use Rattle.bench_log.specs.Log.{log_size}
use Rattle.bench_log.proofs.Log.{held}
use Rattle.bench_spec.specs.declared.Order.{Order}
use Rattle.bench_spec.specs.declared.Order.TheVariants as order
use Rattle.bench_spec.specs.Bench.{Bench, lent_at, At, delivery, order_of, order_asks, octets_ask, line_asks}
use Rattle.bench_spec.specs.Run.{RunEnds, RunEntry, entry}
use Rattle.bench_spec.proofs.Logged.{SentBy, Logged}
use Rattle.bench_spec.proofs.Ends.{at_most_one}

-- a line restarts an end with the record that it finds
abbrev pub FromLine : Lent → LentAct → Type 0
FromLine r (call c) = Unit {0}
FromLine r (restart rec) = rec ≡ r.rec
FromLine r (cut c rec) = ⊥

-- a call at A or B that is due
abbrev pub Fair : RunEnds → At → Type 0
Fair e x = (x.0 ≤ 1) × DueAt ends ends (entry x) e

-- a request, at an end
asks_fair : (e : RunEnds) (i : ℕ) (s : List ℕ) (room : Rooms) → i ≤ 1 → Fair e (i, call (given Request s room))
unfolding entry
asks_fair e i s room h = (h, if-eq (λ (x : RunEntry). DueAt ends ends x e) i 0 (λ _. tt) (λ _. tt))

-- a delivery to an end, of a frame that the other has sent
gives_fair : (e : RunEnds) (j : ℕ) (s : List ℕ) (room : Rooms) {i n : ℕ} → SentBy e i n s → j ≤ 1 → (j ≡ 0 → i ≡ 1) → (j ≢ 0 → i ≡ 0) → Fair e (j, call (given Receive s room))
unfolding entry
gives_fair e j s room x l h g = (l, if-eq (λ (y : RunEntry). DueAt ends ends y e) j 0 (λ k. x.by_b (h k)) (λ k. x.by_a (g k)))

-- a restart of an end
restart_fair : (e : RunEnds) (i : ℕ) (rec : List ℕ) → i ≤ 1 → Fair e (i, restart rec)
unfolding entry
restart_fair e i rec h = (h, if-eq (λ (x : RunEntry). DueAt ends ends x e) i 0 (λ _. tt) (λ _. tt))

module _ (w : Bench) (e : RunEnds) (h : Logged e w.count w.log) where
  abbrev Good : At → Type 0
  Good x = Fair e x × FromLine (lent_at x.0 w) x.1

  abbrev IfOk : Outcome At → Type 0
  IfOk o = (x : At) → o ≡ ok x → Good x

  is_ok : (y : At) → Good y → IfOk (ok y)
  is_ok y f x k = let j : y ≡ x = cc in subst Good j f

  not_ok : (n : ℕ) → IfOk (refused n)
  not_ok n x k = absurd (let z : ◌≡◌ {A = ℕ} 0 1 = cc in omega arith)

  delivery-fair : (n : ℕ) (room : Rooms) → IfOk (delivery w n room)
  unfolding delivery
  delivery-fair n room x k =
      let a = accepted _ _ k in
      let t = held w.count n w.log (all_yes 13 _ _ a.0 tt).0 in
      subst Good a.1 (gives_fair e _ _ room (h n t.below) (omega arith) (λ j. omega (arith, t.sender)) (λ j. omega (arith, t.sender)), tt)

  order-so : (s : List ℕ) (room : Rooms) (o : Order) → IfOk (order_asks w s room o)
  unfolding order_asks
  order-so s room (order.Request i) = is_ok _ (asks_fair e _ (drop 1 s) room (at_most_one i), tt)
  order-so s room (order.Deliver n) = delivery-fair n room
  order-so s room (order.Restart i) = is_ok _ (restart_fair e _ _ (at_most_one i), refl)

  asks-so : (s : List ℕ) (room : Rooms) (o : Outcome Order) → IfOk (and_then o (order_asks w s room))
  unfolding and_then
  asks-so s room (refused n) = not_ok n
  asks-so s room (ok o) = order-so s room o

  pub asked-fair : (line : List ℕ) (room : Rooms) (x : At) → line_asks w line room ≡ ok x → Good x × (log_size ≤ length w.log)
  unfolding line_asks octets_ask
  asked-fair line room x k =
      let p = passing _ k in
      let a = all_yes 11 _ _ p.0 tt in
      let b = all_yes 11 _ _ a.1 tt in
      let c = all_yes 11 _ _ b.1 tt in
      let d = all_yes 11 _ _ c.1 tt in
      let l = all_yes 11 _ _ d.1 tt in
      (asks-so (unhex line) room (order_of (unhex line)) x p.1, leb-true log_size (length w.log) l.0)
