use Rattle.std.proofs.Common.{ℕ, ◌≡◌, ◌+◌, ◌-◌, ◌≤◌, ◌<◌, List, [], get_or, refl, sym, ap, ◌∙◌, arith, Option, Some, Ok, length}
use lib.ListN.{replicate, length-replicate}
use Rattle.octets.specs.Sizes.{longest_block, held_size, last_number}
use Rattle.octets.specs.Test.{when, if_eq, ok}
use Rattle.octets.proofs.Test.{by_eq, eq_yes, eq_no}
use Rattle.frame.specs.Frame.{Block, DATA, ack_frame}
use Rattle.frame.specs.declared.Kind.TheVariants.{Data, Ack}
use Rattle.frame.specs.Answer.{kind_number, header_of, frame_of}
use Rattle.frame.proofs.Classes.{same_kind}
use Rattle.protocol.specs.declared.Rule.{Rule}
use Rattle.protocol.specs.declared.Rule.TheVariants.{HandUp, Hold, Release}
use Rattle.protocol.specs.Table.{rule, none, connected, rejected, closed_by_partner, close_finished, says, turned, apply}
use Rattle.protocol.specs.Table as table
use Rattle.protocol.proofs.Sound.{length_at}
use Rattle.frame.specs.declared.Header.{Header}
use Rattle.step_rules.specs.declared.Numbers.{Numbers}
use Rattle.step_rules.specs.Internal.{holding, Chosen}
use Rattle.step_plan.specs.declared.Notice.TheVariants.{Nothing}
use Rattle.step_plan.specs.declared.Plan.{Plan}
use Rattle.step_plan.specs.Internal.{sent_by, keeping, turning, Planned}
use Rattle.step_plan.proofs.Comes.{no_block, noticed, answers, keeps, hands, holds, turns, releases}
use Rattle.step_receive.proofs.Found.{hands-up, holds-early, held_full, frees}
use Rattle.step_receive.proofs.apply.Goals as goal

-- what the row says of the frame; some blocks of the count that wait are there to ask the table with
module _ (n : Numbers) (f : Header) {r : Rule} (row : Chosen rule n f r) where
  abbrev some : List Block
  some = replicate n.waiting []

  asked : r ≡ rule (holding n some []) (frame_of f [])
  asked = row some [] [] (length-replicate n.waiting [])

  -- a number is left for the block handed up
  left : r ≡ HandUp → (f.kind ≡ Data → f.number < last_number) → n.delivered < last_number
  left e d = let u = hands-up (holding n some []) (frame_of f []) (sym asked ∙ e) in omega (arith, d (same_kind f.kind Data u.0), u.1)

  -- there is a place for a block that is held
  early : r ≡ Hold → (kind_number f.kind ≡ DATA) × (n.delivered ≤ f.number) × (f.number < n.delivered + held_size)
  early e = holds-early (holding n some []) (frame_of f []) (sym asked ∙ e)

  -- the blocks that leave wait
  waits : r ≡ Release → (n.accepted - n.waiting < f.number) × (f.number ≤ n.accepted)
  waits e = rw (length-replicate {A = Block} n.waiting []) at (frees (holding n some []) (frame_of f []) (sym asked ∙ e))

-- what a row that keeps the blocks comes to, and one that turns to another state; same says what the row does to every endpoint
module _ {n : Numbers} (f : Header) {z : List ℕ} {row r : Rule} {p : Plan} {reply : Option Header} where
  row_keeps : row ≡ r → p ≡ keeping n Nothing reply
      → ((q h : List Block) (b old : Block) → ok (apply r (holding n q h) (frame_of f b)) ≡ answers (holding n q h) none reply old)
      → (b : Block) → (f.kind ≡ Data → (1 ≤ length b) × (length b ≤ longest_block)) → Planned n z b (λ e. ok (apply row e (frame_of f b))) (Ok p)
  row_keeps is e same b _ q h old w o lz = rw is (keeps n q h b old w none reply (same q h b old) e)

  row_turns : (i : table.Notice) {st d : ℕ} → row ≡ r → length z ≡ held_size → p ≡ turning n z st d (noticed i) reply
      → ((q h : List Block) (b old : Block) → ok (apply r (holding n q h) (frame_of f b)) ≡ answers (turned st d (holding n q h)) i reply old)
      → (b : Block) → (f.kind ≡ Data → (1 ≤ length b) × (length b ≤ longest_block)) → Planned n z b (λ e. ok (apply row e (frame_of f b))) (Ok p)
  row_turns i {st} {d} is l8 e same b _ q h old w o lz = rw is (turns n q h b old w z lz l8 st d i reply (same q h b old) e)

pub hand_up-requires : goal.hand_up-requires
hand_up-requires c = left c.args.n c.args.f c.requires.1.1 c.in-HandUp.is c.requires.1.0

pub overflow_sub-f : goal.overflow_sub-f
overflow_sub-f c = let u = early c.args.n c.args.f c.requires.1.1 c.in-Hold.is in u.1

pub hold-requires : goal.hold-requires
hold-requires c = let u = early c.args.n c.args.f c.requires.1.1 c.in-Hold.is in omega (arith, u)

pub release-requires : goal.release-requires
release-requires c = (c.requires.0, waits c.args.n c.args.f c.requires.1.1 c.in-Release.is)

pub returns-in-Ignore : goal.returns-in-Ignore
unfolding apply sent_by if_eq when
returns-in-Ignore c = row_keeps c.args.f c.in-Ignore.is c.keep.ensures (λ q h b old. refl)

pub returns-in-Refuse : goal.returns-in-Refuse
unfolding apply sent_by if_eq when
returns-in-Refuse c = row_keeps c.args.f c.in-Refuse.is (rw c.reply.ensures at c.keep-in-Refuse.ensures) (λ q h b old. refl)

pub returns-in-AcceptDisconnect : goal.returns-in-AcceptDisconnect
unfolding apply sent_by if_eq when
returns-in-AcceptDisconnect c = row_keeps c.args.f c.in-AcceptDisconnect.is (rw c.reply-in-AcceptDisconnect.ensures at c.keep-in-AcceptDisconnect.ensures) (λ q h b old. refl)

pub returns-in-Answer : goal.returns-in-Answer
unfolding apply sent_by if_eq when
returns-in-Answer c = row_turns c.args.f none c.in-Answer.is c.told-held (rw c.reply-in-Answer.ensures at c.turn.ensures) (λ q h b old. refl)

pub returns-in-Reset : goal.returns-in-Reset
unfolding apply sent_by if_eq when
returns-in-Reset c = row_keeps c.args.f c.in-Reset.is (rw c.reply-in-Reset.ensures at c.keep-in-Reset.ensures) (λ q h b old. refl)

pub returns-in-OpenAndConfirm : goal.returns-in-OpenAndConfirm
unfolding apply sent_by if_eq when
returns-in-OpenAndConfirm c = row_turns c.args.f connected c.in-OpenAndConfirm.is c.told-held (rw c.reply-in-OpenAndConfirm.ensures at c.turn-in-OpenAndConfirm.ensures) (λ q h b old. refl)

pub returns-in-CallAgain : goal.returns-in-CallAgain
unfolding apply sent_by if_eq when
returns-in-CallAgain c = row_turns c.args.f none c.in-CallAgain.is c.told-held (rw c.reply-in-CallAgain.ensures at c.turn-in-CallAgain.ensures) (λ q h b old. refl)

pub returns-in-Open : goal.returns-in-Open
unfolding apply sent_by if_eq when
returns-in-Open c = row_turns c.args.f connected c.in-Open.is c.told-held c.turn-in-Open.ensures (λ q h b old. refl)

pub returns-in-Rejected : goal.returns-in-Rejected
unfolding apply sent_by if_eq when
returns-in-Rejected c = row_turns c.args.f rejected c.in-Rejected.is c.told-held c.turn-in-Rejected.ensures (λ q h b old. refl)

pub returns-in-RejectedByDisconnect : goal.returns-in-RejectedByDisconnect
unfolding apply sent_by if_eq when
returns-in-RejectedByDisconnect c = row_turns c.args.f rejected c.in-RejectedByDisconnect.is c.told-held (rw c.reply-in-RejectedByDisconnect.ensures at c.turn-in-RejectedByDisconnect.ensures) (λ q h b old. refl)

pub returns-in-ListenAgain : goal.returns-in-ListenAgain
unfolding apply sent_by if_eq when
returns-in-ListenAgain c = row_turns c.args.f none c.in-ListenAgain.is c.told-held c.turn-in-ListenAgain.ensures (λ q h b old. refl)

pub returns-in-ClosedByPartner : goal.returns-in-ClosedByPartner
unfolding apply sent_by if_eq when
returns-in-ClosedByPartner c = row_turns c.args.f closed_by_partner c.in-ClosedByPartner.is c.told-held (rw c.reply-in-ClosedByPartner.ensures at c.turn-in-ClosedByPartner.ensures) (λ q h b old. refl)

pub returns-in-ClosedByRejection : goal.returns-in-ClosedByRejection
unfolding apply sent_by if_eq when
returns-in-ClosedByRejection c = row_turns c.args.f closed_by_partner c.in-ClosedByRejection.is c.told-held c.turn-in-ClosedByRejection.ensures (λ q h b old. refl)

pub returns-in-Confirm : goal.returns-in-Confirm
unfolding apply sent_by if_eq when
returns-in-Confirm c = row_keeps c.args.f c.in-Confirm.is (rw c.say.ensures at c.keep-in-Confirm.ensures) (λ q h b old. refl)

pub returns-in-HandUp : goal.returns-in-HandUp
unfolding apply sent_by if_eq when
returns-in-HandUp c = λ b d q h old w o lz. rw c.in-HandUp.is (hands c.args.n q h b old w _ lz c.told-held (if_eq (kind_number c.args.f.kind) DATA b []) refl c.hand_up.ensures)

pub returns-in-Hold : goal.returns-in-Hold
unfolding apply sent_by if_eq when
returns-in-Hold c = λ b d q h old w o lz.
    let n = c.args.n in
    let i : ℕ = c.args.f.number - n.delivered in
    let u = early n c.args.f c.requires.1.1 c.in-Hold.is in
    let l = sym (length_at h i) ∙ ap (λ (z : List ℕ). get_or z i 0) lz in
    rw c.in-Hold.is
    (by_eq (get_or c.args.held.now i 0) 0
    (λ e.
    holds n q h b old w i (omega (arith, u), (no_block (get_or h i []) (l ∙ e), d (same_kind c.args.f.kind Data u.0))) (rw u.0 refl) (c.hold.ensures ∙ eq_yes _ _ _ _ e))
    (λ e.
    keeps n q h b old w none (Some (header_of Ack n.local n.remote n.delivered))
    (ap (λ (k : List Block). ok (says (holding n q k) none (ack_frame n.local n.remote n.delivered))) (held_full i (if_eq (kind_number c.args.f.kind) DATA b []) h (omega (arith, l))))
    (c.hold.ensures ∙ eq_no _ _ _ _ e)))

pub returns-in-Acknowledge : goal.returns-in-Acknowledge
unfolding apply sent_by if_eq when
returns-in-Acknowledge c = row_keeps c.args.f c.in-Acknowledge.is (rw c.say-in-Acknowledge.ensures at c.keep-in-Acknowledge.ensures) (λ q h b old. refl)

pub returns-in-Release : goal.returns-in-Release
unfolding apply
returns-in-Release c = λ b d q h old w o lz.
    rw c.in-Release.is (releases c.args.n q h b old w c.args.f.number c.requires.0 (waits c.args.n c.args.f c.requires.1.1 c.in-Release.is).1 refl c.release.ensures)

pub returns-in-FinishedByDisconnect : goal.returns-in-FinishedByDisconnect
unfolding apply sent_by if_eq when
returns-in-FinishedByDisconnect c = row_turns c.args.f close_finished c.in-FinishedByDisconnect.is c.told-held (rw c.reply-in-FinishedByDisconnect.ensures at c.turn-in-FinishedByDisconnect.ensures) (λ q h b old. refl)

pub returns-in-Finished : goal.returns-in-Finished
unfolding apply sent_by if_eq when
returns-in-Finished c = row_turns c.args.f close_finished c.in-Finished.is c.told-held c.turn-in-Finished.ensures (λ q h b old. refl)
