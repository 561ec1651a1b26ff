-- Places of the log.
use Prim.Native.Nat.{ℕ, ◌+◌, ◌-◌, ◌≤◌, ◌<◌}
use mathlib.Core.Path.{◌≡◌, refl, ◌∙◌}
use mathlib.Core.Bool.{true, false}
use mathlib.Core.List.{List, ◌∷◌, ◌++◌}
use native.Mathlib.Omega.{arith}
use borrow.Author.Tests.{ltb-true, leb-true, le-ltb}
use lib.Dec.{ltb, leb}
use lib.ListN.{length, replicate, length-append, length-replicate}
use lib.Seq.{drop-drop}
use borrow.Rule.Slice.PartMut.{put_mid}
use Rattle.octets.specs.Sizes.{longest_frame}
use Rattle.octets.specs.Octets.{put, padded, Octets}
use Rattle.octets.proofs.Test.{both, within}
use Rattle.octets.proofs.Buffers.{drop-zeros}
use Rattle.octets.proofs.Octets.{octets_cons, octets_append, octets_zeros}
use Rattle.bench_log.specs.Log.{sender_at, length_at, holds, place, place_size}

-- a number that is too high
pub too_high : (count n : ℕ) (log : List ℕ) → count ≤ n → false ≡ holds count n log
unfolding holds
too_high count n log h = rw (le-ltb n count h) refl

-- a frame that the log holds
pub record Held (count n : ℕ) (log : List ℕ) : Type 0 where
  pub below : n < count
  pub sender : sender_at n log ≤ 1
  pub short : length_at n log ≤ longest_frame

pub held : (count n : ℕ) (log : List ℕ) → holds count n log ≡ true → Held count n log
unfolding holds
held count n log t =
    let a = both (ltb n count) _ t in
    let b = both (leb (sender_at n log) 1) _ a.1 in
    record { below = ltb-true n count a.0; sender = leb-true (sender_at n log) 1 b.0; short = (within 9 longest_frame (length_at n log) b.1).1 }

-- what is entered is octets, where the frame is
pub octets_place : (sender : ℕ) (s : List ℕ) → sender < 256 → length s < 256 → Octets s → Octets (place sender s)
unfolding place padded
octets_place sender s h k o =
    octets_cons sender _ h (octets_cons (length s) _ k (octets_append s _ o (octets_zeros (longest_frame - length s))))

-- sender, length, frame, zeros, one after the other
pub entered : (d frame : List ℕ) (at sender : ℕ) → length frame ≤ longest_frame → {q e : List ℕ} → q ≡ frame
    → e ≡ put_mid 2 (2 + length frame - 2) (sender ∷ length frame ∷ replicate longest_frame 0) q → put_mid at (at + place_size - at) d e ≡ put d at (place sender frame)
unfolding put place padded
entered d s at sender h {q} {e} eq ee =
    let n = length s in
    let k : 2 + n - 2 ≡ n = omega arith in
    let f : e ≡ sender ∷ n ∷ (s ++ replicate (longest_frame - n) 0) = ee ∙ rw (eq, k, drop-zeros n longest_frame) refl in
    let m : at + place_size - at ≡ place_size = omega arith in
    let l : at + length (sender ∷ n ∷ (s ++ replicate (longest_frame - n) 0)) ≡ at + place_size = omega (arith, length-append s (replicate (longest_frame - n) 0), length-replicate {A = ℕ} (longest_frame - n) 0) in
    rw (f, m, l, drop-drop) refl
