-- What an order comes to, from what carries it out.
use Prim.Native.Nat.{ℕ, zero, suc, ◌≤◌}
use mathlib.Core.Path.{◌≡◌, refl, sym, ◌∙◌}
use mathlib.Core.Logic.{◌≢◌}
use mathlib.Core.Bool.{Bool, true, false}
use mathlib.Core.List.{List}
use native.Mathlib.Omega.{arith}
use lib.ListN.{length}
use borrow.Author.Tests.{eq-eqb, ne_eqb}
use Rattle.octets.specs.Test.{when, if_eq, first, Outcome, refused, ok, refusing, and_then}
use Rattle.protocol.specs.Table.{Step}
use Rattle.call_spec.specs.declared.Call.TheVariants.{Receive}
use Rattle.call_spec.specs.Calls.{Rooms, rooms}
use Rattle.call_spec.specs.Claim.{Lent, LentAct, restart}
use Rattle.call_spec.specs.Answers.{block_of}
use Rattle.lent_record.specs.Told.{lent_after}
use Rattle.bench_log.specs.Log.{holds}
use Rattle.bench_log.proofs.Log.{held}
use Rattle.bench_spec.specs.declared.Order.{Order}
use Rattle.bench_spec.specs.declared.Order.TheVariants as order
use Rattle.bench_spec.specs.Bench.{Bench, bench_of, end_number, lent_at, At, order_asks, end_restarted, call_outcome, comes, end_of, log_after, count_after, bench_after}
use Rattle.bench_spec.proofs.Delivery.{no_frame, goes}
use Rattle.bench_checks.specs.Ready.{ready_questions}
use Rattle.bench_checks.proofs.Passed.{Fit, Passed, passed}
use Rattle.bench_call.specs.declared.BenchAnswer.{BenchAnswer}
use Rattle.bench_call.specs.Answer.{block_start, start_of, bench_answer_of}
use Rattle.bench_call.specs.Internal.{task_of, task_outcome, octets_in, order_outcome, CallReady, OrderReady, Does}
use Rattle.bench_call.specs.Internal as carried
use Rattle.bench_order.specs.Performed.{call_by, call_of, Performed}
use Rattle.bench_order.specs.Internal.{asks_ready, Asked, found, FindableIn, decided, end_for, EndKnown}

passed_finds : (w : Bench) (room : Rooms) (x : Outcome Order) → first (ready_questions (end_restarted x) w room) ≡ 0 → FindableIn x w.log w.count
unfolding end_restarted
passed_finds w room (ok (order.Request i)) e = tt
passed_finds w room (ok (order.Deliver n)) e = let p = passed w room e in (p.long_log, p.few)
passed_finds w room (ok (order.Restart i)) e = tt
passed_finds w room (refused n) e = tt

-- the number of 11, 12 and 15, which leave out the end that the order restarts
module _ (w : Bench) (room : Rooms) (x : Outcome Order) {k n : ℕ} (e : k ≡ end_restarted x) (h : n ≡ first (ready_questions k w room)) where
  asked : n ≡ first (ready_questions (end_restarted x) w room)
  asked = rw e at h

  -- where they are passed, 13 can be asked
  pub findable : n ≡ 0 → FindableIn x w.log w.count
  findable z = passed_finds w room x (sym asked ∙ z)

  pub decides : {d : Outcome Order} → d ≡ refusing n (and_then x (found w.log w.count)) → d ≡ decided w room x
  unfolding decided
  decides f = rw (sym asked) f

-- a refused line tells nothing of a block, so it does not matter where that would stand
pub any_start : {w : Bench} {q : Outcome At} {k : ℕ} → q ≡ refused k → (start start' : ℕ) {out up : List ℕ} {a b : Lent} {log out' up' : List ℕ} {r : BenchAnswer}
    → Performed w q start out up a b log out' up' r → Performed w q start' out up a b log out' up' r
unfolding comes end_of and_then bench_answer_of block_of if_eq when
any_start e start start' p =
    rw e
    (let z = rw e at p in record { answer = z.answer; bench = z.bench; buffer = z.buffer; block_buffer = z.block_buffer; handed = z.handed })

module _ (a b : Lent) (log : List ℕ) (count : ℕ) (s out up : List ℕ) where
  abbrev w : Bench
  w = bench_of a b log count

  abbrev room : Rooms
  room = rooms (length out) (length up)

  -- what holds of an order once it is decided
  abbrev pub Fine : Outcome Order → Type 0
  Fine (ok (order.Request i)) = Passed w room × (1 ≤ length s)
  Fine (ok (order.Deliver n)) = Passed w room × (holds count n log ≡ true)
  Fine (ok (order.Restart i)) = Unit {0}
  Fine (refused n) = Unit {0}

  fine-found : (n : ℕ) (t : Bool) → holds count n log ≡ t → Passed w room → Fine (when t (ok (order.Deliver n)) (refused 13))
  unfolding when
  fine-found n true h p = (p, h)
  fine-found n false h p = tt

  fine-unless : (m : ℕ) (x : Outcome Order) → first (ready_questions (end_restarted x) w room) ≡ m → Asked x s → Fine (refusing m (and_then x (found log count)))
  unfolding refusing and_then found end_restarted
  fine-unless zero (ok (order.Request i)) e h = (passed w room e, h)
  fine-unless zero (ok (order.Deliver n)) e h = fine-found n (holds count n log) refl (passed w room e)
  fine-unless zero (ok (order.Restart i)) e h = tt
  fine-unless zero (refused n) e h = tt
  fine-unless (suc m) x e h = tt

  pub end_known : (d : Outcome Order) → Fine d → EndKnown d log
  end_known (ok (order.Request i)) h = tt
  end_known (ok (order.Deliver n)) h = let k = held count n log h.1 in ((h.0.long_log, omega (arith, k.below, h.0.few)), k.sender)
  end_known (ok (order.Restart i)) h = tt
  end_known (refused n) h = tt

  -- 11, 12 and 15 of the line are those of a call at either end
  at_end : {l : Lent} → (Passed w room → Fit l) → Passed w room → CallReady l out up
  at_end fit p = let f = fit p in (((f.long, f.is_sound), (f.page_long, f.goes)), (p.enough, p.enough_block))

  pub is_ready : (d : Outcome Order) → Fine d → {l : Lent} → (Passed w room → Fit l) → OrderReady d l s log count out up
  is_ready (ok (order.Request i)) h fit = (at_end fit h.0, (h.0.long_log, h.1))
  is_ready (ok (order.Deliver n)) h fit = let k = held count n log h.1 in (at_end fit h.0, (h.0.long_log, ((k.below, h.0.few), k.short)))
  is_ready (ok (order.Restart i)) h fit = tt
  is_ready (refused n) h fit = tt

  pub fine : (x : Outcome Order) {d : Outcome Order} → d ≡ decided w room x → Asked x s → Fine d
  unfolding decided
  fine x e h = rw e (fine-unless (first (ready_questions (end_restarted x) w room)) x refl h)

  -- what a decided order asks is what the order asked
  abbrev asks : Outcome Order → Outcome At
  asks o = and_then o (order_asks w s room)

  asks-found : (n : ℕ) (t : Bool) → holds count n log ≡ t → asks (when t (ok (order.Deliver n)) (refused 13)) ≡ asks (ok (order.Deliver n))
  unfolding and_then order_asks when
  asks-found n true h = refl
  asks-found n false h = sym (no_frame w n room h)

  asks-unless : (m : ℕ) (x : Outcome Order) → asks (refusing m (and_then x (found log count))) ≡ refusing m (asks x)
  unfolding refusing and_then found order_asks
  asks-unless zero (ok (order.Request i)) = refl
  asks-unless zero (ok (order.Deliver n)) = asks-found n (holds count n log) refl
  asks-unless zero (ok (order.Restart i)) = refl
  asks-unless zero (refused n) = refl
  asks-unless (suc m) x = refl

  -- and where a block of it stands, if it is not refused
  abbrev Starts : Outcome Order → ℕ → Type 0
  Starts (ok (order.Request i)) start = start ≡ 0
  Starts (ok (order.Deliver n)) start = start ≡ block_start n
  Starts (ok (order.Restart i)) start = start ≡ 0
  Starts (refused n) start = Unit {0}

  starts-found : (n : ℕ) (t : Bool) → Starts (when t (ok (order.Deliver n)) (refused 13)) (block_start n)
  unfolding when
  starts-found n true = refl
  starts-found n false = tt

  starts : (m : ℕ) (x : Outcome Order) → Starts (refusing m (and_then x (found log count))) (start_of x)
  unfolding refusing and_then found start_of
  starts zero (ok (order.Request i)) = refl
  starts zero (ok (order.Deliver n)) = starts-found n (holds count n log)
  starts zero (ok (order.Restart i)) = refl
  starts zero (refused n) = tt
  starts (suc m) x = tt

  -- The end i has the record and page l, and an outcome there leaves the other as it is: new-a and new-b say what both are then.
  pub record Place (i : ℕ) (l : Lent) (new-a new-b : Lent → Lent) : Type 0 where
    pub here : lent_at i w ≡ l
    pub after : (o : Outcome Step) → bench_after i w o ≡ bench_of (new-a (lent_after l o)) (new-b (lent_after l o)) (log_after i log count o) (count_after count o)

  pub place-a : {i : ℕ} → i ≡ 0 → Place i a (λ x. x) (λ x. b)
  unfolding lent_at bench_after if_eq when
  place-a {i} z = record { here = rw (eq-eqb i 0 z) refl; after = λ o. rw (eq-eqb i 0 z) refl }

  pub place-b : {i : ℕ} → i ≢ 0 → Place i b (λ x. a) (λ x. x)
  unfolding lent_at bench_after if_eq when
  place-b {i} z = record { here = rw (ne_eqb i 0 z) refl; after = λ o. rw (ne_eqb i 0 z) refl }

  module _ {l : Lent} {new-a new-b : Lent → Lent} {l' : Lent} {log' out' up' : List ℕ} {r : BenchAnswer} where
    at : {i : ℕ} → Place i l new-a new-b → {start : ℕ} (c : LentAct) → Does i l log count start (call_by c) (call_outcome l count c) out up l' log' out' up' r
        → Performed w (ok (i, c)) start out up (new-a l') (new-b l') log' out' up' r
    unfolding comes end_of call_of and_then bench_answer_of
    at {i} p {start} c d =
        record {
          answer = rw p.here d.answer;
          bench = rw p.here ((λ j. bench_of (new-a (d.end j)) (new-b (d.end j)) (d.entered j) (d.answer j).count) ∙ sym (p.after (call_outcome l count c)));
          buffer = rw p.here d.buffer;
          block_buffer = rw p.here d.block_buffer;
          handed = rw p.here d.handed;
        }

    refuses : {k : ℕ} → Place 0 l new-a new-b → (start : ℕ) → Does 0 l log count 0 Receive (refused k) out up l' log' out' up' r
        → Performed w (refused k) start out up (new-a l') (new-b l') log' out' up' r
    unfolding comes end_of call_of and_then bench_answer_of block_of if_eq when
    refuses {k} p start d =
        record {
          answer = rw p.here d.answer;
          bench = (λ j. bench_of (new-a (d.end j)) (new-b (d.end j)) (d.entered j) (d.answer j).count) ∙ sym (p.after (refused k));
          buffer = d.buffer;
          block_buffer = d.block_buffer;
          handed = d.handed;
        }

    by_order : (d : Outcome Order) → Fine d → Place (end_for d log) l new-a new-b → (start : ℕ) → Starts d start
        → Does (end_for d log) l log count (start_of d) (carried.call_by (task_of d)) (order_outcome d l log count s room) out up l' log' out' up' r
        → Performed w (asks d) start out up (new-a l') (new-b l') log' out' up' r
    unfolding and_then end_for start_of task_of carried.call_by call_by task_outcome octets_in order_asks
    by_order (ok (order.Request i)) h p start e y = rw e (at p _ y)
    by_order (ok (order.Deliver n)) h p start e y = rw (e, goes w n room h.1) (at p _ y)
    by_order (ok (order.Restart i)) h p start e y = rw e (at p (restart (lent_at (end_number i) w).rec) (rw p.here y))
    by_order (refused n) h p start e y = refuses p start y

    pub plays : (x : Outcome Order) {d : Outcome Order} → d ≡ decided w room x → Asked x s → {i : ℕ} → i ≡ end_for d log → Place i l new-a new-b
        → Does i l log count (start_of d) (carried.call_by (task_of d)) (order_outcome d l log count s room) out up l' log' out' up' r
        → Performed w (asks_ready w s room x) (start_of x) out up (new-a l') (new-b l') log' out' up' r
    unfolding decided asks_ready
    plays x {d} e h {i} k p y =
        let m = first (ready_questions (end_restarted x) w room) in
        rw (sym (asks-unless m x)) (rw e at (by_order d (fine x e h) (rw k at p) (start_of x) (rw e (starts m x)) (rw k at y)))
