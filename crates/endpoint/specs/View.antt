-- The struct and the endpoint of the step table that it stands for.
use Rattle.std.specs.Prelude.{ℕ, zero, suc, ◌*◌, ◌≡◌, List, [], ◌∷◌, ◌++◌, length, take, drop, get_or}
use Rattle.octets.specs.Octets.{padded}
use Rattle.octets.specs.Sizes.{longest_block, queue_size, held_size}
use Rattle.frame.specs.Frame.{Block}
use Rattle.protocol.specs.Endpoint as abstract
use Rattle.protocol.specs.Endpoint.{lengths_of}
use Rattle.endpoint.specs.declared.Endpoint.{Endpoint}

-- the octets of eight places: 512
abbrev pub places_size : ℕ
places_size = queue_size * longest_block

-- the arrays of a struct have their lengths
pub record Long (e : Endpoint) : Type 0 where
  pub lengths : length e.lengths ≡ queue_size
  pub blocks : length e.blocks ≡ places_size
  pub held_lengths : length e.held_lengths ≡ held_size
  pub held_blocks : length e.held_blocks ≡ places_size

-- the blocks one after the other, each in a place of 64
unfoldable pub places_of : List Block → List ℕ
places_of [] = []
places_of (b ∷ q) = padded longest_block b ++ places_of q

-- the struct that holds an endpoint: the oldest block is first, a held one at the place of its number, unused octets and lengths are 0
unfoldable pub pack : abstract.Endpoint → Endpoint
pack a =
    record {
      state = a.state;
      local = a.local;
      remote = a.remote;
      accepted = a.accepted;
      delivered = a.delivered;
      waiting = length a.queue;
      lengths = padded queue_size (lengths_of a.queue);
      blocks = padded places_size (places_of a.queue);
      held_lengths = padded held_size (lengths_of a.held);
      held_blocks = padded places_size (places_of a.held);
    }

-- f 0, f 1, .., as many as n
unfoldable pub tab : ℕ → (ℕ → Block) → List Block
tab zero f = []
tab (suc n) f = tab n f ++ (f n ∷ [])

-- the block at place i: as many octets as its length says
unfoldable pub place_block : List ℕ → List ℕ → ℕ → Block
place_block lengths blocks i = take (get_or lengths i 0) (drop (i * longest_block) blocks)

-- the endpoint that a struct holds
unfoldable pub view : Endpoint → abstract.Endpoint
view e =
    record {
      state = e.state;
      local = e.local;
      remote = e.remote;
      accepted = e.accepted;
      delivered = e.delivered;
      queue = tab e.waiting (place_block e.lengths e.blocks);
      held = tab held_size (place_block e.held_lengths e.held_blocks);
    }
