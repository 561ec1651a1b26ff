-- The delivery of a frame: question 13, and the end that it goes to.
use Prim.Native.Nat.{ℕ, ◌-◌}
use mathlib.Core.Path.{◌≡◌, refl, ap, ◌∙◌}
use mathlib.Core.Logic.{◌≢◌}
use mathlib.Core.Bool.{true, false}
use native.Mathlib.Omega.{arith}
use Rattle.octets.specs.Test.{when, first, Outcome, refused, ok, outcome}
use Rattle.call_spec.specs.declared.Call.TheVariants.{Receive}
use Rattle.call_spec.specs.Calls.{Rooms, given}
use Rattle.call_spec.specs.Claim.{call}
use Rattle.bench_log.specs.Log.{sender_at, frame_logged, holds}
use Rattle.bench_log.proofs.Log.{held}
use Rattle.bench_spec.specs.Bench.{Bench, At, delivery}

module _ (w : Bench) (n : ℕ) (room : Rooms) where
  -- the log does not hold it
  pub no_frame : holds w.count n w.log ≡ false → delivery w n room ≡ refused 13
  unfolding delivery first when outcome
  no_frame h = rw h refl

  abbrev pub to : ℕ → Outcome At
  to i = ok (i, call (given Receive (frame_logged n w.log) room))

  module _ (h : holds w.count n w.log ≡ true) where
    pub goes : delivery w n room ≡ to (1 - sender_at n w.log)
    unfolding delivery first when outcome
    goes = rw h refl

    -- it goes to the end that did not send it
    pub to_b : sender_at n w.log ≡ 0 → delivery w n room ≡ to 1
    to_b z = goes ∙ ap (λ (i : ℕ). to (1 - i)) z

    pub to_a : sender_at n w.log ≢ 0 → delivery w n room ≡ to 0
    to_a z =
        let one : sender_at n w.log ≡ 1 = omega (arith, (held w.count n w.log h).sender, z) in
        goes ∙ ap (λ (i : ℕ). to (1 - i)) one
