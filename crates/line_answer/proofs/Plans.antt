-- The call that a line makes, and its plan.
use Rattle.std.proofs.Common.{subst, ℕ, ◌≡◌, ◌≤◌, List, Bool, true, false, Option, Some, None, Result, Ok, length, refl, ap, ◌∙◌, arith}
use borrow.Author.Tests.{le-leb}
use Rattle.octets.specs.Sizes.{longest_frame, longest_block}
use Rattle.octets.specs.declared.refusal.Refusal.{Refusal}
use Rattle.octets.specs.Test.{when, first, Outcome}
use Rattle.octets.proofs.Test.{joined}
use Rattle.frame.specs.declared.Class.{Class}
use Rattle.frame.specs.declared.Class.TheVariants as class
use Rattle.frame.specs.Layout.{is_frame, is_request}
use Rattle.frame.specs.Frame.{Block}
use Rattle.frame.specs.Read.{kind_of, cut_block}
use Rattle.frame.specs.Answer.{class_of}
use Rattle.frame.proofs.Classes.{frame_no_request}
use Rattle.protocol.specs.Table.{Step}
use Rattle.call_spec.specs.declared.Call.{Call}
use Rattle.call_spec.specs.declared.Call.TheVariants.{Request, Receive}
use Rattle.call_spec.specs.Calls.{given, rooms, performed}
use Rattle.call_spec.specs.Answers.{block_of, block_part}
use Rattle.call_spec.proofs.Sequence.{has_room}
use Rattle.step_plan.specs.declared.Plan.{Plan}
use Rattle.endpoint.specs.View.{view}
use Rattle.endpoint.specs.Record.{decode}
use Rattle.endpoint_plan.specs.Internal.{PlansAny, PlansFor, Plans}
use Rattle.endpoint_plan.proofs.Carries.{by_block}
use Rattle.lent_record.specs.declared.Answer.{Answer}
use Rattle.lent_record.specs.Told.{answer_of}
use Rattle.lent_record.proofs.Told.{sent_fits}
use Rattle.link.specs.Lent.{Called}
use Rattle.link.proofs.Answers.{at_record}
use Rattle.line_answer.proofs.Ends.{room, block_room}
use Rattle.lent_record.specs.Record.{format, record_questions}
use Rattle.line_answer.specs.Line.{call_in, line_call}
use Rattle.line_answer.proofs.Lines.{asked_of}

-- a request makes a request, and all else is received
abbrev pub makes : Option Class → Call
makes None = Receive
makes (Some class.Frame) = Receive
makes (Some class.Request) = Request

made : (f q : Bool) → (f ≡ true → q ≡ false) → when q Request Receive ≡ makes (when f (Some class.Frame) (when q (Some class.Request) None))
unfolding when
made true q h = rw (h refl) refl
made false true h = refl
made false false h = refl

pub call_made : (s : List ℕ) → call_in s ≡ makes (class_of (kind_of s))
unfolding call_in class_of
call_made s = made (is_frame (kind_of s)) (is_request (kind_of s)) (frame_no_request (kind_of s))

-- the plan of a call with room enough, where 11, 12 and 15 are passed
pub planned : (rec page s : List ℕ) → first (record_questions rec page) ≡ 0 → (k : Call) (r : Result Plan Refusal) → PlansAny (decode rec) k s r
    → Plans (decode rec) page (given k s (rooms longest_frame longest_block)) r
unfolding view
planned rec page s y k r w =
    let a = asked_of rec page y in
    w page (rooms longest_frame longest_block) (joined (le-leb longest_frame longest_frame (omega arith)) (has_room _ longest_block (omega arith))) a.page_long a.goes

-- of the call that the line makes
pub comes_so : (rec page s : List ℕ) {k : Call} → k ≡ call_in s
    → performed format rec page (given k s (rooms longest_frame longest_block)) ≡ performed format rec page (line_call s)
comes_so rec page s e = ap (λ (k : Call). performed format rec page (given k s (rooms longest_frame longest_block))) e

-- it is carried out
pub called : (rec page s : List ℕ) (y : first (record_questions rec page) ≡ 0) {k : Call} → k ≡ call_in s → {p : Plan} → PlansAny (decode rec) k s (Ok p) → {b : Block} → b ≡ cut_block s
    → {rec' out' up' : List ℕ} {r : Answer}
    → ((o : Outcome Step) → PlansFor k (rooms longest_frame longest_block) (decode rec) b o p → Called k o rec b room block_room rec' out' up' r)
    → Called (call_in s) (performed format rec page (line_call s)) rec b room block_room rec' out' up' r
called rec page s y {k} e {p} w {b} f {rec'} {out'} {up'} {r} h =
    subst (λ (k : Call). Called k (performed format rec page (given k s (rooms longest_frame longest_block))) rec b room block_room rec' out' up' r) e
    (at_record rec (asked_of rec page y).long page (given k s (rooms longest_frame longest_block)) (h _ (by_block f (planned rec page s y k (Ok p) w))))

-- the frame sent has room
pub sends : {k : Call} {o : Outcome Step} {rec : List ℕ} {b : Block} {rec' out' up' : List ℕ} {r : Answer} → Called k o rec b room block_room rec' out' up' r
    → length out' ≡ longest_frame → r.sent ≤ longest_frame
unfolding answer_of
sends {o = o} g l = sent_fits room o g.buffer l (ap (λ (x : Answer). x.sent) g.answer)

-- the block handed up
pub hands : {k k' : Call} → k ≡ k' → {o : Outcome Step} {rec : List ℕ} {b : Block} {rec' out' up' : List ℕ} {r : Answer} → Called k' o rec b room block_room rec' out' up' r
    → {x : List ℕ} → x ≡ block_part k b up' r.block → x ≡ block_of o
hands e {b = b} {up' = up'} {r = r} g h = h ∙ ap (λ (k : Call). block_part k b up' r.block) e ∙ g.block
