-- N2's own promise, of the calls in octets: with none held, the eight blocks from e on, arriving in whatever order, followed by seven
-- collects, come up in sequence.
use Rattle.std.specs.Prelude.{ℕ, ◌+◌, ◌≤◌, ◌<◌, ◌≡◌, true, List, [], ◌∷◌, ◌++◌, map, length, get_or, replicate}
use Rattle.octets.specs.Sizes.{longest_frame, longest_block, held_size, last_number, last_incarnation}
use Rattle.frame.specs.Frame.{Block, data_frame, COLLECT}
use Rattle.frame.specs.Layout.{encode}
use Rattle.page.specs.Page.{used_for, page_of}
use Rattle.protocol.specs.Endpoint.{Endpoint, sized, sound}
use Rattle.protocol.specs.Limits.{Bounded}
use Rattle.protocol.specs.Sequence.{up_of, AllEight, HoldsNone}
use Rattle.call_spec.specs.declared.Call.TheVariants.{Request, Receive}
use Rattle.call_spec.specs.Calls.{Arguments, Rooms, given, Format, performed, record_after, page_after}

-- the blocks that come up in a list of calls on a lent record and its page, in order
unfoldable pub comes_up : Format → List Arguments → List ℕ → List ℕ → List Block
comes_up format [] rec page = []
comes_up format (c ∷ cs) rec page = let o = performed format rec page c in up_of o ++ comes_up format cs (record_after format rec o) (page_after page o)

-- block i of bs arrives: the partner's DATA numbered e + i
abbrev pub arrival : Rooms → Endpoint → List Block → ℕ → Arguments
arrival r e bs i = given Receive (encode (data_frame e.remote e.local (e.delivered + i) (get_or bs i []))) r

-- the calls: the eight arrive in this order, and seven collects follow
abbrev pub overtaking : Rooms → Endpoint → List Block → List ℕ → List Arguments
overtaking r e bs order = map (arrival r e bs) order ++ replicate 7 (given Request (COLLECT ∷ []) r)

-- of the record of an endpoint and the page that goes with it, in buffers that may be longer; the buffers for a frame and for a block have room
pub record InSequence (format : Format) (e : Endpoint) : Type 0 where
  pub comes : (r : Rooms) → longest_frame ≤ r.frame → longest_block ≤ r.block → (rest more : List ℕ) (bs : List Block) (order : List ℕ)
      → length bs ≡ held_size → sized bs ≡ true → AllEight order → comes_up format (overtaking r e bs order) (format.octets e ++ rest) (page_of (used_for e.local) ++ more) ≡ bs

-- The claim, of every open end that holds none, is sound, has numbers that fit, and whose e + 7 is at most 4294967294: past that 7 refuses some of the eight.
pub record TakesEight (e : Endpoint) : Type 0 where
  pub holds_none : HoldsNone e
  pub is_sound : sound e ≡ true
  pub bounded : Bounded e
  pub last : e.local ≤ last_incarnation
  pub numbers : e.delivered + 7 < last_number

abbrev pub EightComeUp : Format → Type 0
EightComeUp format = (e : Endpoint) → TakesEight e → InSequence format e
