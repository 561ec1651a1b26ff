-- A record that holds a sound endpoint whose numbers have 32 bits, and its page, in buffers that may be longer; and what a call on them does.
use Rattle.std.specs.Prelude.{ℕ, ◌≤◌, ◌≡◌, true, List, ◌++◌}
use Rattle.octets.specs.Sizes.{longest_frame, longest_block, last_incarnation}
use Rattle.octets.specs.Test.{ok}
use Rattle.page.specs.Page.{used_for, page_of}
use Rattle.protocol.specs.Endpoint.{Endpoint, sound}
use Rattle.protocol.specs.History as protocol
use Rattle.protocol.specs.Limits.{Bounded}
use Rattle.call_spec.specs.Calls.{Arguments, said, Format, performed}

-- the octets of an endpoint, and octets after it
abbrev pub Lies : Format → List ℕ → Endpoint → Type 0
Lies format rec e = (rest : List ℕ) × (rec ≡ format.octets e ++ rest)

-- the page that goes with its number
abbrev pub GoesWith : List ℕ → Endpoint → Type 0
GoesWith page e = (more : List ℕ) × (page ≡ page_of (used_for e.local) ++ more)

pub record Holding (format : Format) (rec page : List ℕ) (e : Endpoint) : Type 0 where
  pub is_sound : sound e ≡ true
  pub bounded : Bounded e
  pub last : e.local ≤ last_incarnation
  pub lies : Lies format rec e
  pub paged : GoesWith page e

-- The claim, of every call with room for a frame and for a block: it does what the call of the protocol does that its octets say. So what holds of the
-- one, the cases at the edges among it, holds of the other.
abbrev pub PerformsAsSaid : Format → Type 0
PerformsAsSaid format =
    (rec page : List ℕ) (e : Endpoint) → Holding format rec page e → (c : Arguments) (x : protocol.Call)
    → said c ≡ ok x → longest_frame ≤ c.room → longest_block ≤ c.block_room → performed format rec page c ≡ protocol.perform x e
