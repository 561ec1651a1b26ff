-- What carrying a plan out leaves of the places of blocks. No entry point's contract needs this.
use Rattle.std.specs.Prelude.{ℕ, ◌+◌, ◌*◌, ◌≤◌, ◌<◌, ◌≡◌, List, [], ◌∷◌, ◌++◌, length, get_or, drop, replicate}
use Rattle.octets.specs.Sizes.{longest_block, queue_size}
use Rattle.octets.specs.Octets.{put}
use Rattle.frame.specs.Frame.{Block}
use Rattle.call_spec.specs.declared.Call.{Call}
use Rattle.call_spec.specs.declared.Call.TheVariants.{Request, Receive}
use Rattle.step_plan.specs.declared.Plan.{Plan}
use Rattle.step_plan.specs.declared.Places.{Places}
use Rattle.step_plan.specs.declared.Places.TheVariants.{Keep, Join, Release, Clear}
use Rattle.endpoint.specs.declared.Endpoint.{Endpoint}
use Rattle.endpoint.specs.View.{place_block}
use Rattle.endpoint.specs.Internal.{record_of}

-- Places of so many octets after a plan: s joins at its place; where some leave, the others move to the front and zeros follow; written afresh
-- all are zeros.
unfoldable pub places_after : Places → ℕ → List ℕ → List ℕ → List ℕ
places_after Keep width s d = d
places_after (Join i) width s d = put d (i * width) s
places_after (Release k) width s d = drop (k * width) d ++ replicate (k * width) 0
places_after Clear width s d = replicate (length d) 0

-- they have room for it
abbrev pub PlaceFor : Places → ℕ → List ℕ → List ℕ → Type 0
PlaceFor Keep width s d = Unit {0}
PlaceFor (Join i) width s d = i * width + length s ≤ length d
PlaceFor (Release k) width s d = (k ≤ queue_size) × ((width ≤ longest_block) × (length d ≡ queue_size * width))
PlaceFor Clear width s d = Unit {0}

-- there are eight of them
abbrev pub InEight : Places → Type 0
InEight Keep = Unit {0}
InEight (Join i) = i < queue_size
InEight (Release k) = k ≤ queue_size
InEight Clear = Unit {0}

-- both kinds of places have room for the block that joins one of them
abbrev pub PlanFits : Plan → Block → Type 0
PlanFits p b = (InEight p.queue × InEight p.held) × (length b ≤ longest_block)

-- the lengths and the blocks after a plan, where b joins
abbrev pub lengths_after : Places → Block → List ℕ → List ℕ
lengths_after k b = places_after k 1 (length b ∷ [])

abbrev pub blocks_after : Places → Block → List ℕ → List ℕ
blocks_after k b = places_after k longest_block b

-- the record after a plan, where b joins the blocks that wait or those held
unfoldable pub carried : Plan → Block → Endpoint → Endpoint
carried p b e =
    record_of p.numbers (lengths_after p.queue b e.lengths) (blocks_after p.queue b e.blocks)
    (lengths_after p.held b e.held_lengths) (blocks_after p.held b e.held_blocks)

-- where a block that is handed up comes from: the first of the held places, or the frame, whose block is b
unfoldable pub block_from : Call → List ℕ → List ℕ → Block → Block
block_from Request lengths blocks b = place_block lengths blocks 0
block_from Receive lengths blocks b = b

-- it can be handed up
abbrev pub Handy : Call → List ℕ → ℕ → Type 0
Handy Request lengths room = (get_or lengths 0 0 ≤ longest_block) × (longest_block ≤ room)
Handy Receive lengths room = Unit {0}

-- what is left in the buffer for a block where b is handed up
unfoldable pub handed_to : Call → Block → List ℕ → List ℕ
handed_to Request b up = put up 0 b
handed_to Receive b up = up

-- and the count of its octets
pub record HandsUp (c : Call) (b : Block) (up up' : List ℕ) (n : ℕ) : Type 0 where
  pub count : n ≡ length b
  pub octets : up' ≡ handed_to c b up
