-- Question 14 of a call, decided from its plan.
use Prim.Native.Nat.{ℕ, ◌≤◌, ◌<◌}
use mathlib.Core.Path.{◌≡◌, refl, sym, ap, ◌∙◌}
use mathlib.Core.Logic.{◌≢◌}
use mathlib.Core.Bool.{Bool, true, false}
use mathlib.Core.List.{List, [], ◌∷◌}
use native.Mathlib.Omega.{arith}
use borrow.Author.Tests.{ltb-true, le-leb}
use lib.Dec.{ltb}
use lib.ListN.{length}
use Rattle.octets.specs.Test.{when, first, Outcome, refused, ok, outcome, and_then}
use Rattle.frame.specs.Frame.{Block, Frame}
use Rattle.protocol.specs.Table.{Step, Sent, nothing, frame}
use Rattle.call_spec.specs.Calls.{Arguments, rooms, wire, performed}
use Rattle.call_spec.specs.Claim.{Lent, LentAct, call}
use Rattle.step_plan.specs.declared.Plan.{Plan}
use Rattle.std.specs.Prelude.{Option, None, Some, Result, Ok, Err}
use Rattle.octets.specs.declared.refusal.Refusal.{Refusal}
use Rattle.octets.specs.Refusal.{refusal_number}
use Rattle.frame.specs.declared.Header.{Header}
use Rattle.call_spec.specs.Answers.{sent_in}
use Rattle.step_plan.specs.Internal.{sent_by}
use Rattle.endpoint.specs.Record.{record_size, decode}
use Rattle.endpoint_plan.specs.Internal.{Plans, PlansAny}
use Rattle.call_spec.proofs.Sequence.{has_room}
use Rattle.link.specs.Lent.{lent_call}
use Rattle.octets.specs.Sizes.{longest_frame}
use Rattle.octets.proofs.Test.{joined}
use Rattle.call_spec.specs.declared.Call.{Call}
use Rattle.endpoint.specs.View.{view}
use Rattle.lent_record.specs.Record.{format, ends}
use Rattle.lent_record.specs.Told.{sent_of}
use Rattle.link.proofs.Answers.{enough}
use Rattle.bench_log.specs.Log.{places}
use Rattle.bench_spec.specs.Bench.{sends, logged, call_outcome}
use Rattle.bench_call.specs.Internal.{CallReady, has_place}

-- a step that sends nothing, and one that sends a frame
pub quiet_logs : (count : ℕ) (x : Step) → x.sent ≡ nothing → logged count x ≡ ok x
unfolding logged sends outcome first when
quiet_logs count x e = rw e refl

gate : (b : Bool) (x : Step) → outcome (first ((14, b) ∷ [])) x ≡ when b (ok x) (refused 14)
unfolding outcome first when
gate true x = refl
gate false x = refl

sending_logs : (count : ℕ) (x : Step) (f : Frame) → x.sent ≡ frame f → logged count x ≡ when (ltb count places) (ok x) (refused 14)
unfolding logged sends when
sending_logs count x f e =
    gate (when (sends x.sent) (ltb count places) true) x ∙ ap (λ (s : Sent). when (when (sends s) (ltb count places) true) (ok x) (refused 14)) e

-- what is planned to be sent tells what 14 answers
by_reply : (o : Outcome Step) (r : Option Header) (b : Block) (count : ℕ) → sent_by r b ≡ sent_in o → and_then o (logged count) ≡ when (has_place r count) o (refused 14)
unfolding sent_in sent_by and_then has_place when
by_reply (refused n) None b count e = refl
by_reply (refused n) (Some h) b count e = absurd (let z : ◌≡◌ {A = ℕ} 0 1 = cc in omega arith)
by_reply (ok x) None b count e = quiet_logs count x (sym e)
by_reply (ok x) (Some h) b count e = sending_logs count x _ (sym e)

-- The plan of a call where 11, 12 and 15 are passed is that with its page and its buffers.
pub plans : (l : Lent) (s out up : List ℕ) (c : Call) (r : Result Plan Refusal) → CallReady l out up → PlansAny (decode l.rec) c s r → Plans (decode l.rec) l.page (lent_call c s out up) r
unfolding decode view
plans l s out up c r h p =
    p l.page (rooms (length out) (length up)) (joined (le-leb longest_frame (length out) h.1.0) (has_room c (length up) h.1.1)) h.0.1.0 h.0.1.1

-- a call that the plan refuses
pub no-plan : (l : Lent) → record_size ≤ length l.rec → (count : ℕ) (c : Arguments) (q : Refusal) → Plans (decode l.rec) l.page c (Err q) → call_outcome l count (call c) ≡ refused (refusal_number q)
unfolding call_outcome and_then
no-plan l long count c q w = rw (enough l.rec long l.page c, w) refl

module _ (l : Lent) (long : record_size ≤ length l.rec) (count : ℕ) (c : Arguments) {p : Plan} (w : Plans (decode l.rec) l.page c (Ok p)) where
  pub by-plan : call_outcome l count (call c) ≡ when (has_place p.reply count) (performed format l.rec l.page c) (refused 14)
  unfolding call_outcome
  by-plan = by_reply (performed format l.rec l.page c) p.reply _ count (w.comes.sent ∙ sym (ap sent_in (enough l.rec long l.page c)))

  -- 14 refuses, or does not
  pub full : has_place p.reply count ≡ false → call_outcome l count (call c) ≡ refused 14
  unfolding when
  full t = by-plan ∙ rw t refl

  pub left : has_place p.reply count ≡ true → call_outcome l count (call c) ≡ performed format l.rec l.page c
  unfolding when
  left t = by-plan ∙ rw t refl

-- what is sent has a place in the log
by_test : (b : Bool) (x : Step) → sent_of (when b (ok x) (refused 14)) ≢ 0 → b ≡ true
unfolding when sent_of
by_test true x h = refl
by_test false x h = absurd (h refl)

by_sent : (count : ℕ) (x : Step) (s : Sent) → x.sent ≡ s → sent_of (logged count x) ≢ 0 → count < places
unfolding sent_of wire
by_sent count x nothing e h = absurd (h (ap sent_of (quiet_logs count x e) ∙ ap (λ (s : Sent). length (wire s)) e))
by_sent count x (frame f) e h = ltb-true count places (by_test (ltb count places) x (λ z. h (ap sent_of (sending_logs count x f e) ∙ z)))

place_left_lem : (o : Outcome Step) (count : ℕ) → sent_of (and_then o (logged count)) ≢ 0 → count < places
unfolding and_then sent_of
place_left_lem (refused n) count h = absurd (h refl)
place_left_lem (ok x) count h = by_sent count x x.sent refl h

pub has_place_lem : (l : Lent) (count : ℕ) (c : LentAct) → sent_of (call_outcome l count c) ≢ 0 → count < places
unfolding call_outcome
has_place_lem l count c h = place_left_lem (ends.comes l c) count h
