-- A call at one end of the bench: what it sends is logged, and what it answers is told.
use Prim.Native.Nat.{ℕ, ◌+◌, ◌≤◌, ◌<◌}
use mathlib.Core.Path.{◌≡◌, refl, sym, subst, ap, ◌∙◌}
use mathlib.Core.Logic.{◌≢◌}
use mathlib.Core.List.{List}
use native.Mathlib.Omega.{arith}
use lib.ListN.{length, take}
use Rattle.octets.specs.Sizes.{longest_frame}
use Rattle.octets.specs.Test.{when, if_eq, Outcome, refused, ok}
use Rattle.octets.proofs.Test.{by_eq, eq_yes, eq_no}
use Rattle.octets.proofs.Outcomes.{of-value, after-value}
use Rattle.frame.specs.Frame.{Frame}
use Rattle.frame.specs.Layout.{encode}
use Rattle.protocol.specs.Table.{Step, Sent, nothing, frame}
use Rattle.call_spec.specs.declared.Call.{Call}
use Rattle.call_spec.specs.declared.Call.TheVariants.{Request}
use Rattle.call_spec.specs.Calls.{wire, page_after}
use Rattle.call_spec.specs.Claim.{Lent, lent, LentAct, comes_by}
use Rattle.call_spec.specs.Answers.{sent_in, block_of, block_part}
use Rattle.lent_record.specs.declared.Answer.{Answer}
use Rattle.lent_record.specs.Record.{format}
use Rattle.lent_record.specs.Told.{sent_of, answer_of}
use Rattle.link.specs.Lent.{Called}
use Rattle.lent_record.proofs.Told.{sent_fits, sent_taken}
use Rattle.bench_log.specs.Log.{places, log_size}
use Rattle.bench_spec.specs.declared.End.{End}
use Rattle.bench_spec.proofs.Ends.{same_end}
use Rattle.bench_spec.specs.Bench.{end_number, sends, logged, call_outcome, log_after, count_after}
use Rattle.bench_call.specs.declared.BenchAnswer.{BenchAnswer}
use Rattle.bench_call.specs.Answer.{bench_block_at, bench_answer_of}
use Rattle.bench_call.specs.Internal.{noted, noted_count, block_place, answer_from, Does}

pub some_octets : (f : Frame) → length (encode f) ≢ 0
unfolding encode
some_octets f z = omega arith

-- one place more is in use where a frame was sent
counts_sent : (count : ℕ) (s : Sent) → noted_count count (length (wire s)) ≡ when (sends s) (count + 1) count
unfolding noted_count sends wire when
counts_sent count nothing = eq_yes 0 0 count (count + 1) refl
counts_sent count (frame f) = eq_no (length (encode f)) 0 count (count + 1) (some_octets f)

counts : (count : ℕ) (o : Outcome Step) → noted_count count (sent_of o) ≡ count_after count o
unfolding count_after sent_of wire sends when
counts count (refused n) = counts_sent count nothing
counts count (ok x) = counts_sent count x.sent

enters_sent : (i : ℕ) (log : List ℕ) (count : ℕ) (x : Step) (s : Sent) → x.sent ≡ s → noted i log count (wire s) ≡ log_after i log count (ok x)
unfolding noted log_after sends wire when
enters_sent i log count x nothing e = rw e (eq_yes 0 0 _ _ refl)
enters_sent i log count x (frame f) e = rw e (eq_no (length (encode f)) 0 _ _ (some_octets f))

enters : (i : ℕ) (log : List ℕ) (count : ℕ) (o : Outcome Step) → noted i log count (wire (sent_in o)) ≡ log_after i log count o
unfolding sent_in noted log_after wire if_eq when
enters i log count (refused n) = refl
enters i log count (ok x) = enters_sent i log count x x.sent refl

-- part by part
pub answers : (e : End) (m : Answer) (start count : ℕ) {at counted n : ℕ} → at ≡ block_place start m.block → counted ≡ noted_count count n → n ≡ m.sent
    → record { end = e; status = m.status; sent = m.sent; at = at; block = m.block; count = counted } ≡ answer_from (end_number e) m start count
unfolding answer_from
answers e m start count h k l = rw (h, k, l, same_end e) refl

tells : (i : ℕ) (rec : List ℕ) (count start : ℕ) (o : Outcome Step) → answer_from i (answer_of rec o) start count ≡ bench_answer_of i rec count start o
unfolding answer_from answer_of bench_answer_of block_place
tells i rec count start o = rw (counts count o) refl

-- what holds of the outcome of a call at an end, and of each refusal, holds of its outcome with 14
pub with_14 : (P : Outcome Step → Type 0) → ((n : ℕ) → P (refused n)) → (l : Lent) (count : ℕ) (c : LentAct) → P (comes_by format l c) → P (call_outcome l count c)
unfolding call_outcome logged
with_14 P refusals l count c h =
    after-value P refusals (comes_by format l c) (logged count) (λ x e. of-value P refusals _ x (subst P e h))

-- the block stands where the answer says
abbrev pub Stands : ℕ → List ℕ → List ℕ → List ℕ → Type 0
Stands start log up b = bench_block_at (if_eq (length b) 0 0 start) (length b) log up ≡ b

-- that of a request at the start of the buffer for it
collected-stands : (log up b : List ℕ) → take (length b) up ≡ b → Stands 0 log up b
unfolding bench_block_at
collected-stands log up b h =
    let none : ◌≡◌ {A = ℕ} (if_eq (length b) 0 0 0) 0 = by_eq (length b) 0 (λ z. eq_yes (length b) 0 0 0 z) (λ z. eq_no (length b) 0 0 0 z) in
    eq_yes _ 0 _ _ none ∙ h

pub collects : (log : List ℕ) {o : Outcome Step} {rec s out up rec' out' up' : List ℕ} {m : Answer} → Called Request o rec s out up rec' out' up' m
    → Stands 0 log up' (block_of o)
unfolding block_part answer_of
collects log {up' = up'} w =
    collected-stands log up' _ (ap (λ (n : ℕ). take n up') (sym (ap (λ (x : Answer). x.block) w.answer)) ∙ w.block)

module _ (i : ℕ) (l : Lent) (log : List ℕ) (count start : ℕ) (c : Call) (o : Outcome Step) {s out up rec' out' up' : List ℕ} {m : Answer}
    (w : Called c o l.rec s out up rec' out' up' m) where
  sent_is : m.sent ≡ sent_of o
  unfolding answer_of
  sent_is = ap (λ (x : Answer). x.sent) w.answer

  -- what is sent can be logged
  pub loggable : sent_of o ≤ longest_frame → (sent_of o ≢ 0 → (count < places) × (log_size ≤ length log)) → length out' ≡ length out
      → (m.sent ≤ length out') × ((m.sent ≤ longest_frame) × (m.sent ≢ 0 → (count < places) × (log_size ≤ length log)))
  loggable short h e =
      (omega (arith, sent_fits out o w.buffer e sent_is, e), (omega (arith, sent_is, short), λ z. h (λ y. z (sent_is ∙ y))))

  pub does : Stands start (log_after i log count o) up' (block_of o) → {page' : List ℕ} → page' ≡ page_after l.page o → {log' : List ℕ} {r : BenchAnswer}
      → r ≡ answer_from i m start count → log' ≡ noted i log count (take m.sent out')
      → Does i l log count start c o out up (lent rec' page') log' out' up' r
  unfolding bench_answer_of
  does h g e k =
      let a = e ∙ ap (λ (x : Answer). answer_from i x start count) w.answer ∙ tells i l.rec count start o in
      let d = k ∙ ap (noted i log count) (sent_taken out o w.buffer sent_is) ∙ enters i log count o in
      record { answer = a; end = λ j. lent (w.end j) (g j); entered = d; buffer = w.buffer; block_buffer = w.block_buffer; handed = rw (a, d) h }
