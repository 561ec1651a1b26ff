-- From what a bench line answers to its text.
use Prim.Native.Nat.{ℕ, ◌-◌, ◌≤◌}
use mathlib.Core.Path.{◌≡◌, refl, sym, subst, ap, ◌∙◌}
use mathlib.Core.Bool.{Bool, true, false}
use mathlib.Core.List.{List, [], ◌∷◌, ◌++◌}
use native.Mathlib.Omega.{arith}
use lib.ListN.{length, take, drop, replicate}
use Rattle.frame.specs.Frame.{Block}
use Rattle.protocol.specs.Table.{Step}
use Rattle.octets.specs.Sizes.{longest_frame, longest_block}
use Rattle.octets.specs.Test.{when, first, Outcome, refused, ok, outcome, and_then}
use Rattle.octets.proofs.Outcomes.{after-question}
use Rattle.hexadecimal.specs.Line.{unhex}
use Rattle.call_spec.specs.declared.Call.TheVariants.{Request, Receive}
use Rattle.call_spec.specs.Calls.{Rooms, given, restarted_in}
use Rattle.call_spec.specs.Claim.{Lent, LentAct, call, restart, comes_by}
use Rattle.call_spec.specs.Answers.{block_in, block_of}
use Rattle.lent_record.specs.Told.{status_of, sent_of}
use Rattle.lent_record.specs.Record.{format}
use Rattle.lent_record.proofs.Told.{sent_fits, sent_taken}
use Rattle.link.proofs.Answers.{block_short}
use Rattle.bench_log.specs.Log.{sender_at, frame_logged, holds}
use Rattle.answer_text.specs.Text.{text_of, StartsWith}
use Rattle.bench_spec.specs.declared.Order.{Order}
use Rattle.bench_spec.specs.declared.Order.TheVariants as order
use Rattle.bench_spec.specs.Bench.{Bench, bench_of, lent_at, At, delivery, end_number, order_of, order_asks, octets_ask, line_asks, comes, end_of}
use Rattle.bench_call.specs.declared.BenchAnswer.{BenchAnswer}
use Rattle.bench_call.specs.Answer.{bench_block_at, bench_answer_of}
use Rattle.bench_call.proofs.Does.{with_14}
use Rattle.bench_call.proofs.Restarts.{restart_step}
use Rattle.bench_order.specs.Performed.{Performed}
use Rattle.bench_answer.specs.Text.{lead, bench_text, BenchAnswered}

-- the block of an outcome has at most 64 octets
abbrev Short : Outcome Step → Type 0
Short o = length (block_of o) ≤ longest_block

quiet_short : (rec page : List ℕ) (o : Outcome Step) → restarted_in format rec page ≡ o → Short o
unfolding block_of block_in
quiet_short rec page (refused n) h = omega arith
quiet_short rec page (ok x) h = subst (λ (y : Step). Short (ok y)) (restart_step rec page h) (omega arith)

-- what fits the text: a block has at most 64 octets
module _ (w : Bench) where
  abbrev pub Fine : Outcome At → Type 0
  Fine q = Short (comes w q)

  fine-refused : (n : ℕ) → Fine (refused n)
  unfolding comes and_then block_of
  fine-refused n = omega arith

  -- an act whose block is short, with 14 too
  fine-act : (i : ℕ) (c : LentAct) → Short (comes_by format (lent_at i w) c) → Fine (ok (i, c))
  unfolding comes and_then
  fine-act i c k = with_14 Short (λ n. fine-refused n) (lent_at i w) w.count c k

  fine-request : (i : ℕ) (s : List ℕ) (room : Rooms) → Fine (ok (i, call (given Request s room)))
  fine-request i s room = fine-act i (call (given Request s room)) (block_short (lent_at i w).rec (lent_at i w).page (given Request s room))

  -- a restart hands no block up
  fine-restart : (i : ℕ) (rec : List ℕ) → Fine (ok (i, restart rec))
  fine-restart i rec = fine-act i (restart rec) (quiet_short rec (lent_at i w).page (restarted_in format rec (lent_at i w).page) refl)

  fine-outcome : (b : Bool) (x : At) → (b ≡ true → Fine (ok x)) → Fine (outcome (first ((13, b) ∷ [])) x)
  unfolding first when outcome
  fine-outcome true x h = h refl
  fine-outcome false x h = fine-refused 13

  fine-delivery : (n : ℕ) (room : Rooms) → Fine (delivery w n room)
  unfolding delivery
  fine-delivery n room =
      fine-outcome (holds w.count n w.log) _ (λ z.
      let i = 1 - sender_at n w.log in
      fine-act i (call (given Receive (frame_logged n w.log) room))
      (block_short (lent_at i w).rec (lent_at i w).page (given Receive (frame_logged n w.log) room)))

  fine-order : (s : List ℕ) (room : Rooms) (o : Order) → Fine (order_asks w s room o)
  unfolding order_asks
  fine-order s room (order.Request e) = fine-request (end_number e) (drop 1 s) room
  fine-order s room (order.Deliver n) = fine-delivery n room
  fine-order s room (order.Restart e) = fine-restart (end_number e) (lent_at (end_number e) w).rec

  fine-octets : (s : List ℕ) (room : Rooms) (o : Outcome Order) → Fine (and_then o (order_asks w s room))
  unfolding and_then
  fine-octets s room (refused n) = fine-refused n
  fine-octets s room (ok o) = fine-order s room o

  pub fine : (line : List ℕ) (room : Rooms) → Fine (line_asks w line room)
  unfolding line_asks octets_ask
  fine line room = after-question Fine fine-refused _ _ (fine-octets (unhex line) room (order_of (unhex line)))

-- the buffers for a frame and for a block
abbrev frames : List ℕ
frames = replicate longest_frame 0

abbrev blocks : List ℕ
blocks = replicate longest_block 0

-- what a line's answer says of its text
module _ {w : Bench} {q : Outcome At} {start : ℕ} {a b : Lent} {log frame up : List ℕ} {r : BenchAnswer} (p : Performed w q start frames blocks a b log frame up r) where
  block_is : r.block ≡ length (block_of (comes w q))
  unfolding bench_answer_of
  block_is = ap (λ (x : BenchAnswer). x.block) p.answer

  sent_is : r.sent ≡ sent_of (comes w q)
  unfolding bench_answer_of
  sent_is = ap (λ (x : BenchAnswer). x.sent) p.answer

  -- the block stands where it is told
  pub block-there : length (bench_block_at r.at r.block log up) ≡ r.block
  block-there = ap length p.handed ∙ sym block_is

  pub tellable : Fine w q → length frame ≡ longest_frame → {block : Block} → block ≡ bench_block_at r.at r.block log up
      → (length block ≤ longest_block) × ((r.sent ≤ longest_frame) × (r.sent ≤ length frame))
  tellable f l e =
      let s = sent_fits frames (comes w q) p.buffer l sent_is in
      (omega (arith, ap length e, block-there, block_is, f), (s, omega (arith, s, l)))

  told_is : r.status ≡ status_of (lent_at (end_of q) w).rec (comes w q)
  unfolding bench_answer_of
  told_is = ap (λ (x : BenchAnswer). x.status) p.answer

  pub gives : end_number r.end ≡ end_of q → {block : Block} → block ≡ bench_block_at r.at r.block log up → {out out' : List ℕ} {k : ℕ} → StartsWith (lead (end_number r.end) ++ text_of r.status block (take r.sent frame)) out out' k
      → BenchAnswered w q out (bench_of a b log r.count) out' k
  unfolding bench_text
  gives h e g = record { begins = rw (h, told_is, e, p.handed, sent_taken frames (comes w q) p.buffer sent_is) at g; bench = p.bench }
