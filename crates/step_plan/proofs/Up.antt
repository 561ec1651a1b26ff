-- The block handed up: of a frame received, its own; of a request, the first of the held ones.
use Prim.Native.Nat.{ℕ}
use mathlib.Core.Path.{◌≡◌, refl, sym, ◌∙◌}
use mathlib.Core.Logic.{◌≢◌}
use mathlib.Core.Bool.{Bool}
use mathlib.Core.List.{List, [], ◌∷◌}
use native.Mathlib.Omega.{arith}
use lib.ListN.{get_or}
use Rattle.octets.specs.Test.{Outcome, refused, ok, mapped, and_then}
use Rattle.octets.proofs.Test.{by_eq, eq_yes, eq_no, if-eq}
use Rattle.octets.proofs.Outcomes.{after-question, of-value}
use Rattle.frame.specs.Frame.{Block, Frame, Request, connect, listen, end_listening, close, timer, collect, send}
use Rattle.frame.specs.Read.{cut_block, read_frame, read_request}
use Rattle.frame.proofs.Blocks.{read-block}
use Rattle.protocol.specs.declared.Rule.{Rule}
use Rattle.protocol.specs.declared.Rule.TheVariants.{Ignore, Refuse, AcceptDisconnect, Answer, Reset, OpenAndConfirm, CallAgain, Open, Rejected}
use Rattle.protocol.specs.declared.Rule.TheVariants.{RejectedByDisconnect, ListenAgain, ClosedByPartner, ClosedByRejection, Confirm, HandUp, Hold, Acknowledge, Release}
use Rattle.protocol.specs.declared.Rule.TheVariants.{FinishedByDisconnect, Finished}
use Rattle.protocol.specs.Endpoint.{Endpoint}
use Rattle.protocol.specs.Table.{notice_number, rule, Step, apply, step}
use Rattle.protocol.specs.Requests.{refusal, hung_up, collected, accept}
use Rattle.protocol.specs.Requests as protocol
use Rattle.protocol.specs.History.{ask, deliver, perform}
use Rattle.protocol.specs.History as history
use Rattle.call_spec.specs.declared.Call.{Call}
use Rattle.call_spec.specs.declared.Call.TheVariants as call
use Rattle.call_spec.specs.Calls.{Arguments, reads, does, asked}
use Rattle.call_spec.specs.Answers.{notice_of, block_in, block_of}
use Rattle.step_plan.specs.Internal.{block_by}

-- a notice 5 comes with the block b, any other with none
pub record Right (b block : Block) (n : ℕ) : Type 0 where
  pub some : n ≡ 5 → block ≡ b
  pub nothing : n ≢ 5 → block ≡ []

abbrev RightOf : Block → Outcome Step → Type 0
RightOf b o = Right b (block_of o) (notice_of o)

-- where the block comes from: b is that of the frame
unfoldable pub source : Call → Block → Endpoint → Block
source call.Request b e = get_or e.held 0 []
source call.Receive b e = b

module _ (b : Block) where
  none : (n : ℕ) → n ≢ 5 → Right b [] n
  none n h = record { some = λ z. absurd (h z); nothing = λ z. refl }

module _ (e : Endpoint) (f : Frame) where
  by-rule : (r : Rule) → Right f.block (block_in (apply r e f).notice) (notice_number (apply r e f).notice)
  unfolding apply notice_number block_in
  by-rule Ignore = none f.block 0 (λ z. omega arith)
  by-rule Refuse = none f.block 0 (λ z. omega arith)
  by-rule AcceptDisconnect = none f.block 0 (λ z. omega arith)
  by-rule Answer = none f.block 0 (λ z. omega arith)
  by-rule Reset = none f.block 0 (λ z. omega arith)
  by-rule OpenAndConfirm = none f.block 1 (λ z. omega arith)
  by-rule CallAgain = none f.block 0 (λ z. omega arith)
  by-rule Open = none f.block 1 (λ z. omega arith)
  by-rule Rejected = none f.block 2 (λ z. omega arith)
  by-rule RejectedByDisconnect = none f.block 2 (λ z. omega arith)
  by-rule ListenAgain = none f.block 0 (λ z. omega arith)
  by-rule ClosedByPartner = none f.block 3 (λ z. omega arith)
  by-rule ClosedByRejection = none f.block 3 (λ z. omega arith)
  by-rule Confirm = none f.block 0 (λ z. omega arith)
  by-rule HandUp = record { some = λ _. refl; nothing = λ z. absurd (z refl) }
  by-rule Hold = none f.block 0 (λ z. omega arith)
  by-rule Acknowledge = none f.block 0 (λ z. omega arith)
  by-rule Release = none f.block 0 (λ z. omega arith)
  by-rule FinishedByDisconnect = none f.block 4 (λ z. omega arith)
  by-rule Finished = none f.block 4 (λ z. omega arith)

  right-step : Right f.block (block_in (step e f).notice) (notice_number (step e f).notice)
  unfolding step
  right-step = by-rule (rule e f)

pub none_right : (b : Block) (n : ℕ) → RightOf b (refused n)
unfolding notice_of block_of
none_right b n = none b 0 (λ z. omega arith)

hearing_right : (b : Block) (e : Endpoint) (r : Outcome Frame) → ((f : Frame) → r ≡ ok f → f.block ≡ b)
    → RightOf b (and_then (mapped deliver r) (λ (x : history.Call). perform x e))
unfolding and_then mapped perform notice_of block_of
hearing_right b e (refused m) d = none b 0 (λ z. omega arith)
hearing_right b e (ok f) d = rw (sym (d f refl)) (right-step e f)

closes_right : (e : Endpoint) (b : Block) → RightOf b (ok (hung_up e))
unfolding hung_up notice_number block_in notice_of block_of
closes_right e b = if-eq (λ (x : Step). RightOf b (ok x)) e.remote 0 (λ _. none _ 4 (λ z. omega arith)) (λ _. none _ 0 (λ z. omega arith))

collects_right : (e : Endpoint) (b : Block) → RightOf b (ok (collected e b))
unfolding collected notice_number block_in notice_of block_of
collects_right e [] = none [] 0 (λ z. omega arith)
collects_right e (x ∷ b) = record { some = λ _. refl; nothing = λ z. absurd (z refl) }

accepts_right : (q : Request) (e : Endpoint) → RightOf (get_or e.held 0 []) (ok (accept q e))
unfolding accept notice_number block_in notice_of block_of
accepts_right connect e = none _ 0 (λ z. omega arith)
accepts_right listen e = none _ 0 (λ z. omega arith)
accepts_right end_listening e = none _ 0 (λ z. omega arith)
accepts_right close e = closes_right e (get_or e.held 0 [])
accepts_right (send b) e = none _ 0 (λ z. omega arith)
accepts_right timer e = none _ 0 (λ z. omega arith)
accepts_right collect e = collects_right e (get_or e.held 0 [])

asking_right : (e : Endpoint) (r : Outcome Request) → RightOf (get_or e.held 0 []) (and_then (mapped ask r) (λ (x : history.Call). perform x e))
unfolding and_then mapped perform protocol.request
asking_right e (refused n) = none_right _ n
asking_right e (ok q) = of-value (RightOf (get_or e.held 0 [])) (none_right _) (refusal q e) (accept q e) (accepts_right q e)

does_right : (c : Call) (s : List ℕ) (e : Endpoint) → RightOf (source c (cut_block s) e) (does c s e)
unfolding does reads source
does_right call.Request s e = asking_right e (read_request s)
does_right call.Receive s e = hearing_right (cut_block s) e (read_frame s) (λ f h. read-block s h)

pub right : (sound : Bool) (page : List ℕ) (e : Endpoint) (c : Arguments)
    → RightOf (source c.call (cut_block c.octets) e) (asked sound page e c)
unfolding asked
right sound page e c = after-question (RightOf (source c.call (cut_block c.octets) e)) (none_right _) _ _ (does_right c.call c.octets e)

-- it is the one that its notice tells
pub told : {b block : Block} {n : ℕ} → Right b block n → block_by n b ≡ block
unfolding block_by
told {b} {block} {n = n} r = by_eq n 5 (λ z. eq_yes _ _ _ _ z ∙ sym (r.some z)) (λ z. eq_no _ _ _ _ z ∙ sym (r.nothing z))
