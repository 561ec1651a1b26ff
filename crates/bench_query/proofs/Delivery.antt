-- The delivery of a frame in the log.
use Prim.Native.Nat.{ℕ, ◌≤◌}
use mathlib.Core.Path.{◌≡◌, sym, ap}
use mathlib.Core.Logic.{◌≢◌}
use mathlib.Core.Bool.{Bool, true, false}
use Rattle.octets.specs.Sizes.{longest_frame, longest_block}
use Rattle.octets.specs.Test.{when, if_eq, first, Outcome, and_then}
use Rattle.call_spec.specs.declared.Call.TheVariants.{Receive}
use Rattle.call_spec.specs.Calls.{Rooms, given, rooms}
use Rattle.call_spec.specs.Claim.{Lent}
use Rattle.bench_log.specs.Log.{sender_at, frame_logged, holds}
use Rattle.bench_log.proofs.Log.{too_high}
use Rattle.bench_spec.specs.Bench.{Bench, At, lent_at, comes, end_of}
use Rattle.bench_spec.proofs.Delivery as delivery
use Rattle.bench_checks.proofs.Passed.{Passed, passed}
use Rattle.bench_call.specs.Internal.{outcome_at}
use Rattle.bench_query.specs.Found.{changes, would_change, query_questions}

abbrev pub full : Rooms
full = rooms longest_frame longest_block

-- 11, 12 and 15 have been passed; there is no buffer for a frame that could be too short
pub ready : (w : Bench) → first (query_questions w) ≡ 0 → Passed w full
unfolding first when
ready w h = passed w full h

module _ (w : Bench) (n : ℕ) where
  abbrev by : Outcome At → Bool
  by d = changes (lent_at (end_of d) w).rec (comes w d)

  -- one that it does not hold
  pub not-held : holds w.count n w.log ≡ false → would_change w n ≡ false
  unfolding would_change comes and_then changes
  not-held h = ap by (delivery.no_frame w n full h)

  pub beyond : w.count ≤ n → would_change w n ≡ false
  beyond h = not-held (sym (too_high w.count n w.log h))

  module _ (h : holds w.count n w.log ≡ true) where
    -- the call at an end
    abbrev changed : Lent → Bool
    changed l = changes l.rec (outcome_at l w.count (given Receive (frame_logged n w.log) full))

    pub to_b : sender_at n w.log ≡ 0 → would_change w n ≡ changed w.b
    unfolding would_change lent_at end_of comes and_then if_eq when
    to_b e = ap by (delivery.to_b w n full h e)

    pub to_a : sender_at n w.log ≢ 0 → would_change w n ≡ changed w.a
    unfolding would_change lent_at end_of comes and_then if_eq when
    to_a e = ap by (delivery.to_a w n full h e)
