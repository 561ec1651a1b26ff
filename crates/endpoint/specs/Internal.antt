-- Parts of question 12, for the code, and the record from its parts. No entry point's contract needs this.
use Rattle.std.specs.Prelude.{ℕ, Bool, ◌&&◌, List, [], ◌∷◌, get_or, leb, ltb, eqb}
use Rattle.octets.specs.Sizes.{longest_block, queue_size}
use Rattle.octets.specs.Test.{when, all_below, zeros}
use Rattle.octets.specs.Octets.{lay}
use Rattle.step_rules.specs.declared.Numbers.{Numbers}
use Rattle.endpoint.specs.declared.Endpoint.{Endpoint}
use Rattle.endpoint.specs.declared.Parts.{Parts}
use Rattle.endpoint.specs.Sound.{unused_at}
use Rattle.endpoint.specs.Record.{numbers_layout}

-- the tests of soundness that concern place i alone, where each of the first so many places has a block, and none from so many on
unfoldable pub place_ok : ℕ → ℕ → List ℕ → List ℕ → ℕ → Bool
place_ok filled used lengths blocks i =
    when (eqb (get_or lengths i 0) 0) (leb filled i) (ltb i used && leb (get_or lengths i 0) longest_block) && zeros (unused_at lengths blocks i)

-- those of all places
unfoldable pub places_ok : ℕ → ℕ → List ℕ → List ℕ → Bool
places_ok filled used lengths blocks = all_below queue_size (place_ok filled used lengths blocks)

-- the record of these numbers, and of these lengths and blocks, waiting and held
abbrev pub record_of : Numbers → List ℕ → List ℕ → List ℕ → List ℕ → Endpoint
record_of n l b hl hb =
    record {
      state = n.state;
      local = n.local;
      remote = n.remote;
      accepted = n.accepted;
      delivered = n.delivered;
      waiting = n.waiting;
      lengths = l;
      blocks = b;
      held_lengths = hl;
      held_blocks = hb;
    }

-- the record of these parts, where they lie
abbrev pub whole : Parts → Endpoint
whole p = record_of p.numbers p.queue.lengths.now p.queue.blocks.now p.held.lengths.now p.held.blocks.now

-- its numbers, and their octets
abbrev pub numbers_of : Endpoint → Numbers
numbers_of e =
    record { state = e.state; local = e.local; remote = e.remote; accepted = e.accepted; delivered = e.delivered; waiting = e.waiting }

unfoldable pub numbers_in : Numbers → List ℕ
numbers_in n = lay numbers_layout (n.state ∷ n.local ∷ n.remote ∷ n.accepted ∷ n.delivered ∷ n.waiting ∷ [])
