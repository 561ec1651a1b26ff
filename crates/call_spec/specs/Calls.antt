-- An end's calls on lent buffers, in octets: the record, the page, a request or a frame, the buffer for a frame out, and a request's buffer
-- for a block that it collects.
use Rattle.std.specs.Prelude.{ℕ, Bool, true, List, [], ◌∷◌, length, leb}
use Rattle.octets.specs.Sizes.{longest_frame, longest_block, page_size}
use Rattle.octets.specs.Test.{Question, first, Outcome, refused, ok, refusing, mapped, and_then}
use Rattle.octets.specs.Octets.{left, Octets}
use Rattle.frame.specs.Layout.{encode}
use Rattle.frame.specs.Read.{read_frame, read_request}
use Rattle.protocol.specs.Endpoint.{Endpoint}
use Rattle.page.specs.Page.{runs, count, goes_with, reserving}
use Rattle.protocol.specs.Restart.{restarted}
use Rattle.protocol.specs.Table.{none, Sent, nothing, frame, Step, quiet}
use Rattle.protocol.specs.History as protocol
use Rattle.call_spec.specs.declared.Call.{Call}
use Rattle.call_spec.specs.declared.Call.TheVariants.{Request, Receive}

-- A call with its arguments besides the record and the page: which call it is, the octets of a request or of a frame received, and the lengths of the
-- buffers for a frame out and for a block.
pub record Arguments : Type 0 where
  pub call : Call
  pub octets : List ℕ
  pub room : ℕ
  pub block_room : ℕ

-- what it is given: the octets of a frame are octets
abbrev pub InOctets : Call → List ℕ → Type 0
InOctets Request s = Unit {0}
InOctets Receive s = Octets s

-- the lengths of both buffers
pub record Rooms : Type 0 where
  pub frame : ℕ
  pub block : ℕ

abbrev pub rooms : ℕ → ℕ → Rooms
rooms n m = record { frame = n; block = m }

abbrev pub given : Call → List ℕ → Rooms → Arguments
given c s r = record { call = c; octets = s; room = r.frame; block_room = r.block }

-- the call of the protocol that the octets say, by questions 3 to 7
unfoldable pub reads : Call → List ℕ → Outcome protocol.Call
reads Request s = mapped protocol.ask (read_request s)
reads Receive s = mapped protocol.deliver (read_frame s)

abbrev pub said : Arguments → Outcome protocol.Call
said c = reads c.call c.octets

-- what it comes to: 3 to 7, then 8 to 10 and the step table
unfoldable pub does : Call → List ℕ → Endpoint → Outcome Step
does c s e = and_then (reads c s) (λ (x : protocol.Call). protocol.perform x e)

-- N2: the buffer for a block belongs to the calls that make requests, whatever they request
unfoldable pub block_room_ok : Call → ℕ → Bool
block_room_ok Request n = leb longest_block n
block_room_ok Receive n = true

-- What a call of an endpoint comes to, whose record is sound or not, and which has this page: 11 of the buffers for a frame and for a block
-- and of the page, 12, and 15 (N6) come first.
abbrev pub own_questions : Bool → ℕ → List ℕ → Arguments → List Question
own_questions sound l page c =
    (11, leb longest_frame c.room)
    ∷ (11, block_room_ok c.call c.block_room)
    ∷ (11, leb page_size (length page))
    ∷ (12, sound)
    ∷ (15, goes_with l page)
    ∷ []

unfoldable pub asked : Bool → List ℕ → Endpoint → Arguments → Outcome Step
asked sound page e c = refusing (first (own_questions sound e.local page c)) (does c.call c.octets e)

-- What a restart comes to: 11 of the page, and 15, of which only the run of 00 and FF is asked; then the end is closed, with L = 16 times the
-- count of 00. It looks at the page alone.
unfoldable pub restarting : List ℕ → Outcome Step
restarting page = refusing (first ((11, leb page_size (length page)) ∷ (15, runs page) ∷ [])) (ok (quiet (restarted (count page)) none))

-- the octets of what is sent
unfoldable pub wire : Sent → List ℕ
wire nothing = []
wire (frame f) = encode f

-- How a record lies in octets: their count, whether they are sound (question 12), the endpoint that they hold, and the octets
-- of an endpoint.
pub record Format : Type 0 where
  pub size : ℕ
  pub sound : List ℕ → Bool
  pub holds : List ℕ → Endpoint
  pub octets : Endpoint → List ℕ

-- What a call, or a restart, of a lent record comes to: 11 of the record first.
abbrev pub fitting : Format → List ℕ → Outcome Step → Outcome Step
fitting format rec o = refusing (first ((11, leb format.size (length rec)) ∷ [])) o

unfoldable pub performed : Format → List ℕ → List ℕ → Arguments → Outcome Step
performed format rec page c = fitting format rec (asked (format.sound rec) page (format.holds rec) c)

unfoldable pub restarted_in : Format → List ℕ → List ℕ → Outcome Step
restarted_in format rec page = fitting format rec (restarting page)

-- what a call leaves in the record and in the buffer for a frame out: a success writes at their start, a refusal nothing
unfoldable pub record_after : Format → List ℕ → Outcome Step → List ℕ
record_after format rec o = left (mapped (λ (x : Step). format.octets x.endpoint) o) rec

unfoldable pub buffer_after : List ℕ → Outcome Step → List ℕ
buffer_after out o = left (mapped (λ (x : Step). wire x.sent) o) out

-- what a call leaves of the page (N6): the number that a success leaves is reserved, by one octet at most
unfoldable pub page_after : List ℕ → Outcome Step → List ℕ
page_after page (refused n) = page
page_after page (ok x) = reserving x.endpoint.local page
