-- A place that was entered reads back, and the places before it stay.
use Prim.Native.Nat.{ℕ, ◌+◌, ◌-◌, ◌*◌, ◌≤◌, ◌<◌}
use mathlib.Core.Path.{◌≡◌, sym, ap, ◌∙◌}
use mathlib.Core.List.{List, ◌∷◌, ◌++◌, append_assoc}
use native.Mathlib.Nat.{add-zero}
use native.Mathlib.Omega.{arith}
use lib.ListN.{length, take, drop, get_or, replicate, take-append-drop, get_or-append}
use lib.Seq.{length-take-le, take-append_seam, drop-append-add, get_or-append-add}
use Rattle.octets.specs.Sizes.{longest_frame}
use Rattle.octets.specs.Octets.{put, padded}
use Rattle.octets.proofs.Parts.{part_left}
use Rattle.bench_log.specs.Log.{sender_at, length_at, frame_logged, place, place_size}

-- what place k reads as
pub record Reads (log : List ℕ) (k i n : ℕ) (s : List ℕ) : Type 0 where
  pub sender : sender_at k log ≡ i
  pub count : length_at k log ≡ n
  pub octets : frame_logged k log ≡ s

-- places that two lists share
shared : (k : ℕ) (p t u : List ℕ) → k * place_size + place_size ≤ length p → length_at k (p ++ u) ≤ longest_frame
    → Reads (p ++ t) k (sender_at k (p ++ u)) (length_at k (p ++ u)) (frame_logged k (p ++ u))
unfolding sender_at length_at frame_logged
shared k p t u h short =
    let at : (j : ℕ) → j < length p → get_or (p ++ t) j 0 ≡ get_or (p ++ u) j 0 = λ j l. get_or-append p t 0 j l ∙ sym (get_or-append p u 0 j l) in
    let n : length_at k (p ++ t) ≡ length_at k (p ++ u) = at (k * place_size + 1) (omega arith) in
    let m = length_at k (p ++ u) in
    record {
      sender = at (k * place_size) (omega arith);
      count = n;
      octets = ap (λ (x : ℕ). take x (drop (k * place_size + 2) (p ++ t))) n ∙ part_left p t (k * place_size + 2) m (omega arith) ∙ sym (part_left p u (k * place_size + 2) m (omega arith));
    }

-- a place before the one that is entered
pub stays : (k n : ℕ) (log s : List ℕ) → k < n → n * place_size + place_size ≤ length log → length_at k log ≤ longest_frame
    → Reads (put log (n * place_size) s) k (sender_at k log) (length_at k log) (frame_logged k log)
unfolding put
stays k n log s h room short =
    let e = take-append-drop (n * place_size) log in
    rw e at (shared k (take (n * place_size) log) (s ++ drop (n * place_size + length s) log) (drop (n * place_size) log) (rw (length-take-le (n * place_size) log (omega arith)) (omega arith)) (rw e short))

-- the place that is entered
after_front : (p r s : List ℕ) (k i : ℕ) → length p ≡ k * place_size → Reads (p ++ (i ∷ length s ∷ (s ++ r))) k i (length s) s
unfolding sender_at length_at frame_logged
after_front p r s k i e =
    let y = i ∷ length s ∷ (s ++ r) in
    let n : length_at k (p ++ y) ≡ length s = rw e at (get_or-append-add p y 1 0) in
    record {
      sender = rw (e, add-zero) at (get_or-append-add p y 0 0);
      count = n;
      octets = ap (λ (x : ℕ). take x (drop (k * place_size + 2) (p ++ y))) n ∙ ap (λ (x : List ℕ). take (length s) x) (rw e at (drop-append-add p y 2)) ∙ take-append_seam s r;
    }

pub enters : (n i : ℕ) (log s : List ℕ) → n * place_size + place_size ≤ length log → Reads (put log (n * place_size) (place i s)) n i (length s) s
unfolding put place padded
enters n i log s room =
    let at = n * place_size in
    let zeros : List ℕ = replicate (longest_frame - length s) 0 in
    let r = drop (at + length (i ∷ length s ∷ (s ++ zeros))) log in
    rw append_assoc (after_front (take at log) (zeros ++ r) s n i (length-take-le at log (omega arith)))
