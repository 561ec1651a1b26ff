-- Question 12 of document 01: is the record sound?
use Rattle.std.specs.Prelude.{ℕ, ◌+◌, ◌-◌, ◌*◌, Bool, ◌&&◌, List, take, drop, get_or, ltb, eqb}
use Rattle.octets.specs.Sizes.{longest_block, queue_size}
use Rattle.octets.specs.Test.{when, in_range, all_below, zeros}
use Rattle.protocol.specs.Endpoint.{all_of, numbers_sound, held_sound}
use Rattle.endpoint.specs.declared.Endpoint.{Endpoint}

-- the length x at place i: a waiting one is 1 to 64, an unused one is 0
unfoldable pub place_length_ok : ℕ → ℕ → ℕ → Bool
place_length_ok w i x = when (ltb i w) (in_range 1 longest_block x) (eqb x 0)

unfoldable pub lengths_ok : ℕ → List ℕ → Bool
lengths_ok w lengths = all_below queue_size (λ i. place_length_ok w i (get_or lengths i 0))

-- the octets of place i after its block
unfoldable pub unused_at : List ℕ → List ℕ → ℕ → List ℕ
unused_at lengths blocks i = take (longest_block - get_or lengths i 0) (drop (i * longest_block + get_or lengths i 0) blocks)

unfoldable pub unused_ok : List ℕ → List ℕ → Bool
unused_ok lengths blocks = all_below queue_size (λ i. zeros (unused_at lengths blocks i))

-- A record is sound if its numbers are (its state is 0 to 5, w ≤ 8 and w ≤ t, and what follows of the states), each waiting length is
-- 1 to 64, the lengths of what it holds are sound (each is at most 64, no held number is above 4294967294, none is held outside open),
-- and what is unused is 0.
unfoldable pub sound : Endpoint → Bool
sound e =
    all_of (numbers_sound e.state e.local e.remote e.accepted e.delivered e.waiting)
    && ((lengths_ok e.waiting e.lengths && unused_ok e.lengths e.blocks)
    && (all_of (held_sound e.state e.delivered e.held_lengths) && unused_ok e.held_lengths e.held_blocks))
