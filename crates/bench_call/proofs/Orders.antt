-- An order at one end, case by case.
use Prim.Native.Nat.{ℕ, ◌≤◌, ◌<◌}
use mathlib.Core.Path.{◌≡◌, refl}
use mathlib.Core.Logic.{◌≢◌}
use mathlib.Core.List.{List}
use native.Mathlib.Omega.{arith}
use lib.ListN.{length}
use Rattle.octets.specs.Sizes.{longest_frame}
use Rattle.octets.specs.Test.{Outcome, refused, ok}
use Rattle.protocol.specs.Table.{Step}
use Rattle.call_spec.specs.declared.Call.TheVariants.{Receive}
use Rattle.call_spec.specs.Calls.{rooms, given, page_after}
use Rattle.call_spec.specs.Claim.{Lent, call}
use Rattle.call_spec.specs.Answers.{block_of}
use Rattle.lent_record.specs.declared.Answer.{Answer}
use Rattle.frame.specs.Read.{cut_block}
use Rattle.lent_record.specs.Told.{sent_of}
use Rattle.link.specs.Lent.{Called}
use Rattle.bench_log.specs.Log.{places, log_size, frame_logged}
use Rattle.bench_spec.specs.declared.Order.{Order}
use Rattle.bench_spec.specs.declared.Order.TheVariants as order
use Rattle.bench_spec.specs.Bench.{log_after}
use Rattle.bench_call.specs.Answer.{start_of}
use Rattle.bench_call.specs.Internal.{Task, task_of, call_by, task_outcome, TaskReady, octets_in, Placed, Readable, order_outcome, OrderReady}
use Rattle.bench_call.proofs.Moves.{has_place_lem}
use Rattle.bench_call.proofs.Short.{sent_short}
use Rattle.bench_call.proofs.Does.{Stands, collects}
use Rattle.bench_call.proofs.Handed.{none-stands, stands}
use Rattle.bench_call.proofs.Restarts.{restarts-quietly}

module _ (l : Lent) (s log : List ℕ) (count : ℕ) (out up : List ℕ) where
  abbrev Ready : Outcome Order → Type 0
  Ready x = OrderReady x l s log count out up

  abbrev outcome_of : Outcome Order → Outcome Step
  outcome_of x = order_outcome x l log count s (rooms (length out) (length up))

  pub placed : (x : Outcome Order) → Ready x → Placed x
  placed (ok (order.Request i)) h = tt
  placed (ok (order.Deliver n)) h = omega (arith, h.1.1.0)
  placed (ok (order.Restart i)) h = tt
  placed (refused n) h = tt

  pub readable : (x : Outcome Order) → Ready x → Readable x s log
  readable (ok (order.Request i)) h = h.1.1
  readable (ok (order.Deliver n)) h = (h.1.0, (omega (arith, h.1.1.0), h.1.1.1))
  readable (ok (order.Restart i)) h = tt
  readable (refused n) h = tt

  pub task-ready : (x : Outcome Order) → Ready x → TaskReady (task_of x) l out up
  unfolding task_of
  task-ready (ok (order.Request i)) h = h.0
  task-ready (ok (order.Deliver n)) h = h.0
  task-ready (ok (order.Restart i)) h = tt
  task-ready (refused n) h = tt

  -- what was done is what the order says
  pub ordered : (x : Outcome Order) {t : Task} {z rec' out' up' page' : List ℕ} {m : Answer} → t ≡ task_of x → z ≡ octets_in x s log
      → let o = task_outcome t l count z (rooms (length out) (length up)) in
      Called (call_by t) o l.rec (cut_block z) out up rec' out' up' m × (page' ≡ page_after l.page o)
      → Called (call_by (task_of x)) (outcome_of x) l.rec (cut_block (octets_in x s log)) out up rec' out' up' m × (page' ≡ page_after l.page (outcome_of x))
  ordered x e k w = rw (e, k) at w

  pub short : (x : Outcome Order) → Ready x → sent_of (outcome_of x) ≤ longest_frame
  unfolding task_of task_outcome sent_of
  short (ok (order.Request i)) h = sent_short l count _ h.0.0.0.0
  short (ok (order.Deliver n)) h = sent_short l count _ h.0.0.0.0
  short (ok (order.Restart i)) h = omega (arith, (restarts-quietly l.rec l.page count).0)
  short (refused n) h = omega arith

  pub place_left_lem : (x : Outcome Order) → Ready x → sent_of (outcome_of x) ≢ 0 → (count < places) × (log_size ≤ length log)
  unfolding task_of task_outcome sent_of
  place_left_lem (ok (order.Request i)) h z = (has_place_lem l count _ z, h.1.0)
  place_left_lem (ok (order.Deliver n)) h z = (has_place_lem l count _ z, h.1.0)
  place_left_lem (ok (order.Restart i)) h z = absurd (z (restarts-quietly l.rec l.page count).0)
  place_left_lem (refused n) h z = absurd (z refl)

  -- the block handed up stands where the answer says
  pub block-stands : (x : Outcome Order) → Ready x → (i : ℕ) {rec' out' up' : List ℕ} {m : Answer}
      → Called (call_by (task_of x)) (outcome_of x) l.rec (cut_block (octets_in x s log)) out up rec' out' up' m
      → Stands (start_of x) (log_after i log count (outcome_of x)) up' (block_of (outcome_of x))
  unfolding task_of call_by task_outcome octets_in start_of block_of
  block-stands (ok (order.Request k)) h i w = collects _ w
  block-stands (ok (order.Deliver n)) h i {up' = up'} w =
      stands i l log up' count n (rooms (length out) (length up)) (has_place_lem l count (call (given Receive (frame_logged n log) (rooms (length out) (length up)))))
      h.1.1.0.0 h.1.0 h.1.1.1
  block-stands (ok (order.Restart k)) h i {up' = up'} w = none-stands 0 _ up' _ (restarts-quietly l.rec l.page count).1
  block-stands (refused n) h i {up' = up'} w = none-stands 0 _ up' _ refl
