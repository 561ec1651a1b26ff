-- The block handed up stands in the log where the answer says.
use Prim.Native.Nat.{ℕ, zero, suc, ◌+◌, ◌-◌, ◌*◌, ◌≤◌, ◌<◌}
use mathlib.Core.Path.{◌≡◌, refl, sym, ap, ◌∙◌}
use mathlib.Core.Logic.{◌≢◌, ◌⊎◌, inl, inr, ⊎_elim}
use mathlib.Core.List.{List, [], ◌∷◌}
use native.Mathlib.Omega.{arith}
use lib.ListN.{length, take, drop}
use lib.Seq.{drop-drop}
use Rattle.frame.specs.Layout.{data_block_at}
use Rattle.frame.specs.Read.{cut_block}
use Rattle.frame.proofs.Blocks.{frame_block}
use Rattle.octets.specs.Sizes.{longest_frame}
use Rattle.octets.specs.Test.{when, if_eq, Outcome, refused, ok}
use Rattle.octets.proofs.Test.{by_eq, eq_yes, eq_no}
use Rattle.protocol.specs.Table.{Step, Sent, nothing, frame}
use Rattle.call_spec.specs.declared.Call.TheVariants.{Receive}
use Rattle.call_spec.specs.Calls.{Rooms, given, wire, performed}
use Rattle.call_spec.specs.Claim.{Lent, call}
use Rattle.call_spec.specs.Answers.{notice_of, block_of}
use Rattle.step_plan.specs.Internal.{block_by}
use Rattle.lent_record.specs.Record.{format}
use Rattle.lent_record.specs.Told.{sent_of}
use Rattle.link.proofs.Answers.{hands-it-up, hears_frame}
use Rattle.bench_log.specs.Log.{place_size, places, log_size, length_at, frame_logged, place, place_head}
use Rattle.bench_log.proofs.Places.{stays}
use Rattle.bench_spec.specs.Bench.{sends, call_outcome, log_after}
use Rattle.bench_call.specs.Answer.{block_start, bench_block_at}
use Rattle.bench_call.proofs.Does.{some_octets, with_14, Stands}

-- a block is empty, or what follows octet 14 of the frame received
abbrev pub From : List ℕ → List ℕ → Type 0
From s b = (b ≡ []) ⊎ (b ≡ drop data_block_at s)

pub call_from : (l : Lent) (count : ℕ) (s : List ℕ) (room : Rooms) → From s (block_of (call_outcome l count (call (given Receive s room))))
unfolding block_of block_by
call_from l count s room =
    let h = sym (hands-it-up l.rec l.page s room) in
    with_14 (λ (o : Outcome Step). From s (block_of o)) (λ n. inl refl) l count (call (given Receive s room))
    (by_eq (notice_of (performed format l.rec l.page (given Receive s room))) 5
    (λ z.
    let b = h ∙ eq_yes _ _ _ _ z in
    ⊎_elim (λ (e : cut_block s ≡ []). inl (b ∙ e)) (λ (e : cut_block s ≡ drop data_block_at s). inr (b ∙ e)) (frame_block s (hears_frame l.rec l.page s room z)))
    (λ z. inl (h ∙ eq_no _ _ _ _ z)))

-- the frame received stays in its place, since what is sent goes to a later one
keeps_sent : (i : ℕ) (log : List ℕ) (count n : ℕ) (x : Step) (s : Sent) → x.sent ≡ s → (sent_of (ok x) ≢ 0 → count < places) → n < count → log_size ≤ length log
    → length_at n log ≤ longest_frame → frame_logged n (log_after i log count (ok x)) ≡ frame_logged n log
unfolding log_after sends when sent_of wire
keeps_sent i log count n x nothing e left below long short = rw e refl
keeps_sent i log count n x (frame f) e left below long short =
    let c : count < places = left (λ z. some_octets f (sym (ap (λ (s : Sent). length (wire s)) e) ∙ z)) in
    rw e (stays n count log (place i (wire (frame f))) below (omega arith) short).octets

keeps : (i : ℕ) (log : List ℕ) (count n : ℕ) (o : Outcome Step) → (sent_of o ≢ 0 → count < places) → n < count → log_size ≤ length log → length_at n log ≤ longest_frame
    → frame_logged n (log_after i log count o) ≡ frame_logged n log
unfolding log_after
keeps i log count n (refused k) left below long short = refl
keeps i log count n (ok x) left below long short = keeps_sent i log count n x x.sent refl left below long short

-- a part of a list, read again
again : (n : ℕ) (z : List ℕ) → take (length (take n z)) z ≡ take n z
again zero z = refl
again (suc n) [] = refl
again (suc n) (x ∷ z) = ap (λ (t : List ℕ). x ∷ t) (again n z)

take_none : (m : ℕ) → take {A = ℕ} m [] ≡ []
take_none zero = refl
take_none (suc m) = refl

drop_part : (k n : ℕ) (z : List ℕ) → drop k (take n z) ≡ take (n - k) (drop k z)
drop_part zero n z = let e : n ≡ n - 0 = omega arith in ap (λ (m : ℕ). take m z) e
drop_part (suc k) zero z = let e : 0 ≡ 0 - suc k = omega arith in ap (λ (m : ℕ). take m (drop (suc k) z)) e
drop_part (suc k) (suc n) [] = sym (take_none (suc n - suc k))
drop_part (suc k) (suc n) (x ∷ z) = let e : n - k ≡ suc n - suc k = omega arith in drop_part k n z ∙ ap (λ (m : ℕ). take m (drop k z)) e

block_part_lem : (n : ℕ) (log : List ℕ) → take (length (drop data_block_at (frame_logged n log))) (drop (block_start n) log) ≡ drop data_block_at (frame_logged n log)
unfolding frame_logged block_start
block_part_lem n log =
    let y = drop (n * place_size + place_head) log in
    let m : n * place_size + place_head + data_block_at ≡ n * place_size + (place_head + data_block_at) = omega arith in
    let e : drop data_block_at y ≡ drop (n * place_size + (place_head + data_block_at)) log = drop-drop data_block_at (n * place_size + place_head) log ∙ ap (λ (k : ℕ). drop k log) m in
    rw (drop_part data_block_at (length_at n log) y, e) (again (length_at n log - data_block_at) (drop (n * place_size + (place_head + data_block_at)) log))

pub none-stands : (start : ℕ) (log up b : List ℕ) → length b ≡ 0 → Stands start log up b
unfolding bench_block_at if_eq when
none-stands start log up [] h = refl
none-stands start log up (x ∷ b) h = absurd (omega arith)

-- a place in the log is not its start
far : (n : ℕ) → block_start n ≢ 0
unfolding block_start
far n z = omega arith

some-stands : (n : ℕ) (log up b : List ℕ) → b ≡ drop data_block_at (frame_logged n log) → Stands (block_start n) log up b
unfolding bench_block_at
some-stands n log up b e =
    by_eq (length b) 0 (none-stands (block_start n) log up b)
    (λ z. rw (eq_no (length b) 0 0 (block_start n) z) (eq_no (block_start n) 0 _ _ (far n) ∙ rw e (block_part_lem n log)))

pub stands : (i : ℕ) (l : Lent) (log up : List ℕ) (count n : ℕ) (room : Rooms) → let o = call_outcome l count (call (given Receive (frame_logged n log) room)) in
    (sent_of o ≢ 0 → count < places) → n < count → log_size ≤ length log → length_at n log ≤ longest_frame → Stands (block_start n) (log_after i log count o) up (block_of o)
stands i l log up count n room left below long short =
    let o = call_outcome l count (call (given Receive (frame_logged n log) room)) in
    let log' = log_after i log count o in
    ⊎_elim
    (λ (e : block_of o ≡ []). none-stands (block_start n) log' up (block_of o) (ap length e))
    (λ (e : block_of o ≡ drop data_block_at (frame_logged n log)). some-stands n log' up (block_of o) (e ∙ ap (drop data_block_at) (sym (keeps i log count n o left below long short))))
    (call_from l count (frame_logged n log) room)
