-- N2's own promise: with none held, the eight blocks from e on, arriving in whatever order, followed by seven collects, come up
-- in sequence.
use Rattle.std.specs.Prelude.{ℕ, ◌+◌, ◌<◌, ◌≡◌, true, length, get_or, replicate}
use mathlib.Core.List.{List, [], ◌∷◌, ◌++◌, map, Memᴰ}
use Rattle.octets.specs.Sizes.{held_size}
use Rattle.octets.specs.Test.{Outcome, refused, ok}
use Rattle.frame.specs.Frame.{Block, data_frame, collect}
use Rattle.protocol.specs.Endpoint.{established, Endpoint, none_held, sized}
use Rattle.protocol.specs.Table.{Step}
use Rattle.protocol.specs.History.{Call, ask, deliver, perform, call, endpoint_left, History, now, after}
use Rattle.protocol.specs.Claim.{block_up, handed_up_in}

-- the block that a call hands up
unfoldable pub up_of : Outcome Step → List Block
up_of (refused n) = []
up_of (ok x) = block_up x.notice

-- the blocks that come up in a list of calls, in order
unfoldable pub comes_up : List Call → Endpoint → List Block
comes_up [] e = []
comes_up (c ∷ cs) e = up_of (perform c e) ++ comes_up cs (endpoint_left e (perform c e))

-- block i of bs arrives: the partner's DATA numbered e + i
abbrev pub arrival : Endpoint → List Block → ℕ → Call
arrival e bs i = deliver (data_frame e.remote e.local (e.delivered + i) (get_or bs i []))

-- An order in which the eight arrive: each of them, and no other. Once each is one way; that some arrive again does no harm.
pub record AllEight (order : List ℕ) : Type 0 where
  pub each : (i : ℕ) → i < held_size → Memᴰ i order
  pub only : (i : ℕ) → Memᴰ i order → i < held_size

-- the calls: the eight arrive in this order, and seven collects follow
abbrev pub overtaking : Endpoint → List Block → List ℕ → List Call
overtaking e bs order = map (arrival e bs) order ++ replicate 7 (ask collect)

-- of an endpoint
pub record InSequence (e : Endpoint) : Type 0 where
  pub comes : (bs : List Block) (order : List ℕ) → length bs ≡ held_size → sized bs ≡ true → AllEight order → comes_up (overtaking e bs order) e ≡ bs

-- The claim, of every open end that holds none.
pub record HoldsNone (e : Endpoint) : Type 0 where
  pub is_open : e.state ≡ established
  pub none_held : e.held ≡ none_held

abbrev pub EightComeUp : Type 0
EightComeUp = (e : Endpoint) → HoldsNone e → InSequence e

-- a list of calls at one end
unfoldable pub after_all : List Call → History → History
after_all [] h = h
after_all (c ∷ cs) h = after_all cs (after (call c) h)

-- and in the words of demand 3, of an end with the accepted calls h: what is handed up in its incarnation grows by the eight, in sequence
pub record HandsUpInSequence (h : History) : Type 0 where
  pub hands : (bs : List Block) (order : List ℕ) → length bs ≡ held_size → sized bs ≡ true → AllEight order
      → handed_up_in (now h).local (after_all (overtaking (now h) bs order) h) ≡ handed_up_in (now h).local h ++ bs

abbrev pub EightHandedUp : Type 0
EightHandedUp = (h : History) → HoldsNone (now h) → HandsUpInSequence h
