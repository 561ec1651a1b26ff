-- What stands in the log of a run: frames that the end of the sender octet has sent.
use Prim.Native.Nat.{ℕ, ◌+◌, ◌*◌, ◌≤◌, ◌<◌}
use mathlib.Core.Path.{◌≡◌, refl, sym, subst}
use mathlib.Core.Bool.{true}
use mathlib.Core.List.{List, map, Memᴰ}
use native.Mathlib.Omega.{arith}
use borrow.Author.Tests.{ltb-true}
use lib.Dec.{ltb}
use lib.ListN.{length}
use Rattle.octets.specs.Sizes.{longest_frame}
use Rattle.octets.specs.Test.{when}
use Rattle.octets.specs.Octets.{put}
use Rattle.octets.proofs.Test.{by_eq}
use Rattle.frame.specs.Frame.{Frame}
use Rattle.frame.specs.Layout.{encode}
use Rattle.protocol.specs.Table.{Sent, nothing, frame}
use Rattle.protocol.specs.History.{History, sent}
use Rattle.call_spec.specs.Calls.{wire}
use Rattle.bench_log.specs.Log.{place_size, places, log_size, sender_at, length_at, frame_logged, place}
use Rattle.bench_log.proofs.Places.{Reads, stays, enters}
use Rattle.bench_spec.specs.Bench.{sends}
use Rattle.bench_spec.specs.Run.{RunEnds}

-- octets that an end has sent
abbrev pub Among : List ℕ → History → Type 0
Among s h = Memᴰ s (map encode (sent h))

-- a sender octet, a length and octets that stand in a place
pub record SentBy (e : RunEnds) (i n : ℕ) (s : List ℕ) : Type 0 where
  pub short : n ≤ longest_frame
  pub by_a : i ≡ 0 → Among s e.a.history
  pub by_b : i ≡ 1 → Among s e.b.history

abbrev InPlace : RunEnds → List ℕ → ℕ → Type 0
InPlace e log k = SentBy e (sender_at k log) (length_at k log) (frame_logged k log)

-- each place in use
abbrev pub Logged : RunEnds → ℕ → List ℕ → Type 0
Logged e count log = (k : ℕ) → k < count → InPlace e log k

-- an end that has sent more has sent these
abbrev pub Grows : History → History → Type 0
Grows h g = (s : List ℕ) → Among s h → Among s g

pub still : {e d : RunEnds} → Grows e.a.history d.a.history → Grows e.b.history d.b.history → (count : ℕ) (log : List ℕ)
    → Logged e count log → Logged d count log
still ga gb count log h k l =
    let x = h k l in
    record { short = x.short; by_a = λ i. ga _ (x.by_a i); by_b = λ i. gb _ (x.by_b i) }

reads : {e : RunEnds} {log s : List ℕ} {k i n : ℕ} → Reads log k i n s → SentBy e i n s → InPlace e log k
reads r x = rw (r.sender, r.count, r.octets) x

-- one place more
entered : (e : RunEnds) (count i : ℕ) (log s : List ℕ) → Logged e count log → count * place_size + place_size ≤ length log → SentBy e i (length s) s
    → Logged e (count + 1) (put log (count * place_size) (place i s))
entered e count i log s h room x k l =
    by_eq k count
    (λ j. subst (InPlace e (put log (count * place_size) (place i s))) (sym j) (reads (enters count i log s room) x))
    (λ j. let y = h k (omega arith) in reads (stays k count log (place i s) (omega arith) room y.short) y)

-- what a step leaves in the log
pub logs : (e : RunEnds) (count i : ℕ) (log : List ℕ) (t : Sent) → Logged e count log → log_size ≤ length log → when (sends t) (ltb count places) true ≡ true
    → ((f : Frame) → t ≡ frame f → SentBy e i (length (encode f)) (encode f))
    → Logged e (when (sends t) (count + 1) count) (when (sends t) (put log (count * place_size) (place i (wire t))) log)
unfolding sends when wire
logs e count i log nothing h room left x = h
logs e count i log (frame f) h room left x =
    entered e count i log (encode f) h (omega (arith, ltb-true count places left)) (x f refl)
