-- The record in octets: state, L, D, t, e, w (one octet), lengths, blocks; then the lengths and the blocks of what is held.
use Rattle.std.specs.Prelude.{ℕ, ◌+◌, ◌<◌, ◌^◌, ◌≡◌, List, [], ◌∷◌, ◌++◌, length, take, drop}
use Rattle.octets.specs.Sizes.{queue_size, held_size}
use Rattle.octets.specs.Octets.{field, lay}
use Rattle.endpoint.specs.declared.Endpoint.{Endpoint}
use Rattle.endpoint.specs.View.{places_size}

-- the widths of the numbers
abbrev pub numbers_layout : List ℕ
numbers_layout = 1 ∷ 4 ∷ 4 ∷ 4 ∷ 4 ∷ 1 ∷ []

-- where each stands, and the lengths and the blocks after them, the waiting ones first
abbrev pub local_at : ℕ
local_at = 1

abbrev pub remote_at : ℕ
remote_at = local_at + 4

abbrev pub accepted_at : ℕ
accepted_at = remote_at + 4

abbrev pub delivered_at : ℕ
delivered_at = accepted_at + 4

abbrev pub waiting_at : ℕ
waiting_at = delivered_at + 4

abbrev pub lengths_at : ℕ
lengths_at = waiting_at + 1

abbrev pub blocks_at : ℕ
blocks_at = lengths_at + queue_size

abbrev pub held_lengths_at : ℕ
held_lengths_at = blocks_at + places_size

abbrev pub held_blocks_at : ℕ
held_blocks_at = held_lengths_at + held_size

-- 1,058 in all
abbrev pub record_size : ℕ
record_size = held_blocks_at + places_size

unfoldable pub encode : Endpoint → List ℕ
encode e =
    lay numbers_layout (e.state ∷ e.local ∷ e.remote ∷ e.accepted ∷ e.delivered ∷ e.waiting ∷ [])
    ++ (e.lengths ++ (e.blocks ++ (e.held_lengths ++ e.held_blocks)))

unfoldable pub decode : List ℕ → Endpoint
decode s =
    record {
      state = field 1 0 s;
      local = field 4 local_at s;
      remote = field 4 remote_at s;
      accepted = field 4 accepted_at s;
      delivered = field 4 delivered_at s;
      waiting = field 1 waiting_at s;
      lengths = take queue_size (drop lengths_at s);
      blocks = take places_size (drop blocks_at s);
      held_lengths = take held_size (drop held_lengths_at s);
      held_blocks = take places_size (drop held_blocks_at s);
    }

-- each field has room
pub record RecordFits (e : Endpoint) : Type 0 where
  pub state : e.state < 256
  pub local : e.local < 256 ^ 4
  pub remote : e.remote < 256 ^ 4
  pub accepted : e.accepted < 256 ^ 4
  pub delivered : e.delivered < 256 ^ 4
  pub waiting : e.waiting < 256
  pub lengths : length e.lengths ≡ queue_size
  pub blocks : length e.blocks ≡ places_size
  pub held_lengths : length e.held_lengths ≡ held_size
  pub held_blocks : length e.held_blocks ≡ places_size
