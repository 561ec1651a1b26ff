-- Messages, and plans for a record. No entry point's contract needs this.
use Rattle.std.specs.Prelude.{ℕ, ◌*◌, ◌≤◌, ◌<◌, ◌≡◌, Bool, true, ◌&&◌, List, [], ◌∷◌, leb, length, get_or, Result, Ok, Err}
use Rattle.octets.specs.Sizes.{longest_frame, longest_block, last_number, page_size, numbers_each}
use Rattle.octets.specs.Test.{Outcome, refused, mapped}
use Rattle.octets.specs.declared.refusal.Refusal.{Refusal}
use Rattle.octets.specs.Refusal.{refusal_number}
use Rattle.page.specs.Page.{count, goes_with, new_page}
use Rattle.frame.specs.Frame.{Block, CONNECT}
use Rattle.frame.specs.Read.{cut_block, read_frame, read_request, Input, frame, request}
use Rattle.frame.specs.declared.Kind.TheVariants.{Data}
use Rattle.frame.specs.Answer.{frame_of, request_of}
use Rattle.frame.specs.declared.Message.{Message}
use Rattle.frame.specs.declared.Message.TheVariants as message
use Rattle.protocol.specs.Endpoint.{fresh}
use Rattle.protocol.specs.Endpoint as abstract
use Rattle.protocol.specs.Table.{Step}
use Rattle.protocol.specs.History.{ask, deliver, perform}
use Rattle.protocol.specs.Limits.{Readable}
use Rattle.call_spec.specs.declared.Call.{Call}
use Rattle.call_spec.specs.declared.Call.TheVariants.{Request, Receive}
use Rattle.call_spec.specs.Calls.{Arguments, Rooms, rooms, given, block_room_ok}
use Rattle.step_rules.specs.declared.Numbers.{Numbers}
use Rattle.step_plan.specs.declared.Plan.{Plan}
use Rattle.call_spec.specs.Answers.{notice_of, block_of}
use Rattle.step_plan.specs.Internal.{block_by, Comes, Planned}
use Rattle.endpoint.specs.declared.Endpoint.{Endpoint}
use Rattle.endpoint.specs.View.{place_block, pack, view}
use Rattle.endpoint.specs.Sound.{sound}
use Rattle.endpoint.specs.Internal.{numbers_of}
use Rattle.endpoint_places.specs.Internal.{block_from}
use Rattle.endpoint_plan.specs.Calls.{outcome_of}

-- 11 of the buffers for a frame and for a block
abbrev pub rooms_ok : Call → Rooms → Bool
rooms_ok c r = leb longest_frame r.frame && block_room_ok c r.block

-- what the octets of a call say, by 3 to 7
unfoldable pub input_of : Call → List ℕ → Outcome Input
input_of Request s = mapped request (read_request s)
input_of Receive s = mapped frame (read_frame s)

-- what a message comes to, whose block is b: 8 to 10, and the step table; a refusal stays
unfoldable pub follows : Result Message Refusal → Block → abstract.Endpoint → Outcome Step
follows (Ok (message.Request q)) b e = perform (ask (request_of q b)) e
follows (Ok (message.Frame h)) b e = perform (deliver (frame_of h b)) e
follows (Err k) b e = refused (refusal_number k)

-- b is such a block as its kind asks for
abbrev pub Carries : Result Message Refusal → Block → Type 0
Carries (Ok (message.Request q)) b = Readable (ask (request_of q b))
Carries (Ok (message.Frame h)) b = h.kind ≡ Data → (1 ≤ length b) × (length b ≤ longest_block)
Carries (Err k) b = Unit {0}

-- The message can be planned for, at a record of these numbers, whose held blocks have the lengths z: no number is the last.
abbrev pub Plannable : Result Message Refusal → Numbers → List ℕ → Type 0
Plannable (Ok (message.Request q)) n z = (n.waiting ≤ n.accepted) × (1 ≤ get_or z 0 0 → n.delivered < last_number)
Plannable (Ok (message.Frame h)) n z = (n.waiting ≤ n.accepted) × (h.kind ≡ Data → h.number < last_number)
Plannable (Err k) n z = Unit {0}

-- and r is its plan, or the refusal that it comes to; that of a refusal is itself, whatever the record
pub record PlannedBy (m : Result Message Refusal) (n : Numbers) (z : List ℕ) (r : Result Plan Refusal) : Type 0 where
  pub comes : (b : Block) → Carries m b → Planned n z b (follows m b) r
  pub refuses : (k : Refusal) → m ≡ Err k → r ≡ Err k

-- p is the plan of a call of the record e with these rooms, which comes to o, where b is the block of its message: the block that is handed up comes from the
-- message or from the held ones. 11 and 12 are passed, and the block fits.
pub record PlansFor (c : Call) (r : Rooms) (e : Endpoint) (b : Block) (o : Outcome Step) (p : Plan) : Type 0 where
  pub comes : Comes (numbers_of e) (view e).queue (view e).held b (place_block e.lengths e.blocks 0) o p
  pub handed : block_by (notice_of o) (block_from c e.held_lengths e.held_blocks b) ≡ block_of o
  pub roomy : rooms_ok c r ≡ true
  pub is_sound : sound e ≡ true
  pub short : length b ≤ longest_block

-- it is the plan of such a call, or the refusal that it comes to
abbrev pub PlansFrom : Call → Rooms → Endpoint → Block → Outcome Step → Result Plan Refusal → Type 0
PlansFrom c r e b o (Ok p) = PlansFor c r e b o p
PlansFrom c r e b o (Err q) = o ≡ refused (refusal_number q)

-- of a call with this page
abbrev pub Plans : Endpoint → List ℕ → Arguments → Result Plan Refusal → Type 0
Plans e page c r = PlansFrom c.call (rooms c.room c.block_room) e (cut_block c.octets) (outcome_of e page c) r

-- and of every call of e with these octets, room enough, and a page that goes with it
abbrev pub PlansAny : Endpoint → Call → List ℕ → Result Plan Refusal → Type 0
PlansAny e c s r =
    (page : List ℕ) (room : Rooms) → rooms_ok c room ≡ true → page_size ≤ length page → goes_with e.local page ≡ true → Plans e page (given c s room) r

-- the number that p leaves; 0, which no page has to reserve, where p refuses
abbrev pub number_left : Result Plan Refusal → ℕ
number_left (Ok p) = p.numbers.local
number_left (Err k) = 0

-- The number that p leaves is reserved on this page: asked by all that stores after the page, of the page as it stands then.
abbrev pub Reserved : Result Plan Refusal → List ℕ → Type 0
Reserved p page = number_left p ≤ numbers_each * count page

-- It is not so before the page's store: a fresh end's connect is not reserved on a new page. So what asks for it cannot come before that store.
abbrev pub NotBeforeTheStore : Type 0
NotBeforeTheStore = (p : Result Plan Refusal) → Plans (pack fresh) new_page (given Request (CONNECT ∷ []) (rooms longest_frame longest_block)) p → Reserved p new_page → ⊥
