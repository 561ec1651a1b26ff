-- The step table of document 01: which row applies to a frame, and what each row does.
use Rattle.std.specs.Prelude.{ℕ, ◌+◌, ◌-◌, List, [], ◌∷◌, ◌++◌, drop, get_or, set}
use Rattle.octets.specs.Sizes.{held_size}
use Rattle.octets.specs.Test.{if_eq, if_lt}
use Rattle.frame.specs.Frame.{Block, CRAO, CRPO, CRACK, REJ, RESET, DR, DRACK, DATA, ACK, Frame, control, ack_frame}
use Rattle.protocol.specs.declared.Rule.{Rule}
use Rattle.protocol.specs.declared.Rule.TheVariants.{Ignore, Refuse, AcceptDisconnect, Answer, Reset, OpenAndConfirm}
use Rattle.protocol.specs.declared.Rule.TheVariants.{CallAgain, Open, Rejected, RejectedByDisconnect, ListenAgain}
use Rattle.protocol.specs.declared.Rule.TheVariants.{ClosedByPartner, ClosedByRejection, Confirm, HandUp, Hold, Acknowledge, Release}
use Rattle.protocol.specs.declared.Rule.TheVariants.{FinishedByDisconnect, Finished}
use Rattle.protocol.specs.Endpoint.{closed, listening, active_opening, passive_opening, established, closing, Endpoint, waiting, none_held}

-- Which row applies.

-- A row is a test and what it leads to; the rows below it count where its test fails.
infixr 5 ◌is◌⇒◌∥◌ ◌quotes◌⇒◌∥◌ ◌matches◌⇒◌∥◌ ◌exceeds◌⇒◌∥◌ ◌precedes◌⇒◌∥◌
-- the frame has this kind
abbrev pub ◌is◌⇒◌∥◌ : Frame → ℕ → Rule → Rule → Rule
f is k ⇒ x ∥ y = if_eq f.kind k x y

-- r = L
abbrev pub ◌quotes◌⇒◌∥◌ : Frame → Endpoint → Rule → Rule → Rule
f quotes e ⇒ x ∥ y = if_eq f.quoted e.local x y

-- s = D
abbrev pub ◌matches◌⇒◌∥◌ : Frame → Endpoint → Rule → Rule → Rule
f matches e ⇒ x ∥ y = if_eq f.sender e.remote x y

-- s > D
abbrev pub ◌exceeds◌⇒◌∥◌ : Frame → Endpoint → Rule → Rule → Rule
f exceeds e ⇒ x ∥ y = if_lt e.remote f.sender x y

-- s < D
abbrev pub ◌precedes◌⇒◌∥◌ : Frame → Endpoint → Rule → Rule → Rule
f precedes e ⇒ x ∥ y = if_lt f.sender e.remote x y

unfoldable pub when_closed : Endpoint → Frame → Rule
when_closed e f =
    f is CRAO ⇒ Refuse
    ∥ f is CRPO ⇒ Refuse
    ∥ f is CRACK ⇒ Refuse
    ∥ f is DATA ⇒ Refuse
    ∥ f is ACK ⇒ Refuse
    ∥ f is DR ⇒ AcceptDisconnect
    ∥ Ignore

unfoldable pub when_listening : Endpoint → Frame → Rule
when_listening e f =
    f is CRAO ⇒ Answer
    ∥ f is CRPO ⇒ Reset
    ∥ f is DR ⇒ AcceptDisconnect
    ∥ Ignore

-- document 01: calling
unfoldable pub when_active : Endpoint → Frame → Rule
when_active e f =
    f is CRAO ⇒ (f quotes e ⇒ OpenAndConfirm ∥ CallAgain)
    ∥ f is CRPO ⇒ (f quotes e ⇒ OpenAndConfirm ∥ Ignore)
    ∥ f is CRACK ⇒ (f quotes e ⇒ Open ∥ Ignore)
    ∥ f is REJ ⇒ (f quotes e ⇒ Rejected ∥ Ignore)
    ∥ f is DR ⇒ (f quotes e ⇒ RejectedByDisconnect ∥ AcceptDisconnect)
    ∥ Ignore

-- document 01: answering
unfoldable pub when_passive : Endpoint → Frame → Rule
when_passive e f =
    f is CRAO ⇒ Answer
    ∥ f is CRPO ⇒ Reset
    ∥ f is CRACK ⇒ (f matches e ⇒ (f quotes e ⇒ Open ∥ Ignore) ∥ Ignore)
    ∥ f is REJ ⇒ (f quotes e ⇒ ListenAgain ∥ Ignore)
    ∥ f is RESET ⇒ (f quotes e ⇒ ListenAgain ∥ Ignore)
    ∥ f is DR ⇒ (f quotes e ⇒ ClosedByPartner ∥ AcceptDisconnect)
    ∥ Ignore

-- open, a DATA: the block numbered e is handed up, those numbered e + 1 to e + 7 are held; every other is acknowledged once more
unfoldable pub data_row : Endpoint → Frame → Rule
data_row e f =
    if_eq f.number e.delivered HandUp
    (if_lt f.number e.delivered Acknowledge
    (if_lt f.number (e.delivered + held_size) Hold
    Acknowledge))

-- open, an ACK n: t - w < n ≤ t
unfoldable pub ack_row : Endpoint → Frame → Rule
ack_row e f = if_lt (e.accepted - waiting e) f.number (if_lt e.accepted f.number Ignore Release) Ignore

-- document 01: open
unfoldable pub open_rows : Endpoint → Frame → Rule
open_rows e f =
    f is CRAO ⇒ Confirm
    ∥ f is CRPO ⇒ Confirm
    ∥ f is DR ⇒ ClosedByPartner
    ∥ f is DATA ⇒ data_row e f
    ∥ f is ACK ⇒ ack_row e f
    ∥ Ignore

-- only with s = D and r = L; but REJ (N6) with any s ≥ D, since the partner may have restarted with a later number
unfoldable pub when_established : Endpoint → Frame → Rule
when_established e f =
    f is REJ ⇒ (f quotes e ⇒ ClosedByRejection ∥ Ignore)
    ∥ f matches e ⇒ (f quotes e ⇒ open_rows e f ∥ Ignore)
    ∥ Ignore

unfoldable pub when_closing : Endpoint → Frame → Rule
when_closing e f =
    f is DR ⇒ (f exceeds e ⇒ FinishedByDisconnect ∥ f quotes e ⇒ FinishedByDisconnect ∥ Ignore)
    ∥ f is DRACK ⇒ (f quotes e ⇒ Finished ∥ Ignore)
    ∥ f is REJ ⇒ (f quotes e ⇒ Finished ∥ Ignore)
    ∥ f is CRAO ⇒ (f exceeds e ⇒ Finished ∥ Ignore)
    ∥ f is CRPO ⇒ (f exceeds e ⇒ Finished ∥ Ignore)
    ∥ Ignore

infixr 5 ◌in-state◌⇒◌∥◌
abbrev pub ◌in-state◌⇒◌∥◌ : Endpoint → ℕ → Rule → Rule → Rule
e in-state n ⇒ x ∥ y = if_eq e.state n x y

-- If s < D, passed over in every state. Else the rows of the state.
unfoldable pub rule : Endpoint → Frame → Rule
rule e f =
    f precedes e ⇒ Ignore
    ∥ e in-state closed ⇒ when_closed e f
    ∥ e in-state listening ⇒ when_listening e f
    ∥ e in-state active_opening ⇒ when_active e f
    ∥ e in-state passive_opening ⇒ when_passive e f
    ∥ e in-state established ⇒ when_established e f
    ∥ e in-state closing ⇒ when_closing e f
    ∥ Ignore

-- What a row does.

-- document 01: a notice
pub data Notice : Type 0 where
  none connected rejected closed_by_partner close_finished : Notice
  handed_up : Block → Notice

-- document 01's number of a notice
unfoldable pub notice_number : Notice → ℕ
notice_number none = 0
notice_number connected = 1
notice_number rejected = 2
notice_number closed_by_partner = 3
notice_number close_finished = 4
notice_number (handed_up b) = 5

-- a call sends one frame or nothing
pub data Sent : Type 0 where
  nothing : Sent
  frame : Frame → Sent

-- What a call answers: the endpoint after it, its notice (with the block, where one is handed up), and what it sends.
pub record Step : Type 0 where
  pub endpoint : Endpoint
  pub notice : Notice
  pub sent : Sent

abbrev pub quiet : Endpoint → Notice → Step
quiet e n = record { endpoint = e; notice = n; sent = nothing }

abbrev pub says : Endpoint → Notice → Frame → Step
says e n g = record { endpoint = e; notice = n; sent = frame g }

-- The same incarnation in state st, with the partner d. Only an open end has blocks, and it begins with none.
abbrev pub turned : ℕ → ℕ → Endpoint → Endpoint
turned st d e = record { state = st; local = e.local; remote = d; accepted = 0; delivered = 0; queue = []; held = none_held }

-- as e rises, the places move on by one: what was held as number e leaves, and nothing is held as e + 7
unfoldable pub moved_down : List Block → List Block
moved_down held = drop 1 held ++ ([] ∷ [])

-- of two copies of a block the first counts; [] is none
unfoldable pub first_copy : Block → Block → Block
first_copy [] b = b
first_copy (x ∷ c) b = x ∷ c

-- a copy of the block numbered e + i
unfoldable pub held_at : ℕ → Block → List Block → List Block
held_at i b held = set held i (first_copy (get_or held i []) b)

-- one block more is handed up
abbrev pub delivering : Endpoint → Endpoint
delivering e =
    record {
      state = e.state;
      local = e.local;
      remote = e.remote;
      accepted = e.accepted;
      delivered = e.delivered + 1;
      queue = e.queue;
      held = moved_down e.held;
    }

-- the block numbered n is early: its first copy is held
abbrev pub holding_early : ℕ → Block → Endpoint → Endpoint
holding_early n b e =
    record {
      state = e.state;
      local = e.local;
      remote = e.remote;
      accepted = e.accepted;
      delivered = e.delivered;
      queue = e.queue;
      held = held_at (n - e.delivered) b e.held;
    }

-- the blocks before number n leave; the oldest waiting one has number t - w
abbrev pub releasing : ℕ → Endpoint → Endpoint
releasing n e =
    record {
      state = e.state;
      local = e.local;
      remote = e.remote;
      accepted = e.accepted;
      delivered = e.delivered;
      queue = drop (n - (e.accepted - waiting e)) e.queue;
      held = e.held;
    }

-- kind(L, s), in answer to the frame f
abbrev pub reply : ℕ → Endpoint → Frame → Frame
reply k e f = control k e.local f.sender

unfoldable pub apply : Rule → Endpoint → Frame → Step
apply Ignore e f = quiet e none
apply Refuse e f = says e none (reply REJ e f)
apply AcceptDisconnect e f = says e none (reply DRACK e f)
apply Answer e f = says (turned passive_opening f.sender e) none (reply CRPO e f)
apply Reset e f = says e none (reply RESET e f)
apply OpenAndConfirm e f = says (turned established f.sender e) connected (reply CRACK e f)
apply CallAgain e f = says (turned active_opening f.sender e) none (reply CRAO e f)
apply Open e f = quiet (turned established f.sender e) connected
apply Rejected e f = quiet (turned closed 0 e) rejected
apply RejectedByDisconnect e f = says (turned closed 0 e) rejected (reply DRACK e f)
apply ListenAgain e f = quiet (turned listening 0 e) none
apply ClosedByPartner e f = says (turned closed 0 e) closed_by_partner (reply DRACK e f)
apply ClosedByRejection e f = quiet (turned closed 0 e) closed_by_partner
apply Confirm e f = says e none (control CRACK e.local e.remote)
apply HandUp e f = says (delivering e) (handed_up f.block) (ack_frame e.local e.remote (e.delivered + 1))
apply Hold e f = says (holding_early f.number f.block e) none (ack_frame e.local e.remote e.delivered)
apply Acknowledge e f = says e none (ack_frame e.local e.remote e.delivered)
apply Release e f = quiet (releasing f.number e) none
apply FinishedByDisconnect e f = says (turned closed 0 e) close_finished (reply DRACK e f)
apply Finished e f = quiet (turned closed 0 e) close_finished

-- what receiving the frame f answers
unfoldable pub step : Endpoint → Frame → Step
step e f = apply (rule e f) e f
