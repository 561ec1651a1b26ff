-- Questions 11, 12 and 15 of a call, and 11 and 15 of a restart; what follows them.
use Prim.Native.Nat.{ℕ, zero, suc, ◌≤◌}
use mathlib.Core.Path.{◌≡◌, refl}
use mathlib.Core.Bool.{Bool, true, false, ◌&&◌, false≢true}
use mathlib.Core.List.{List, ◌∷◌}
use native.Mathlib.Omega.{arith}
use lib.ListN.{length}
use borrow.Author.Tests.{le-leb, leb-true}
use Rattle.octets.specs.Sizes.{longest_frame, page_size}
use Rattle.octets.specs.Test.{when, Question, first, Outcome, refusing, number_of}
use Rattle.octets.proofs.Test.{all_yes}
use Rattle.page.specs.Page.{goes_with}
use Rattle.protocol.specs.Endpoint as abstract
use Rattle.protocol.specs.Table.{Step}
use Rattle.call_spec.specs.Calls.{Arguments, does, block_room_ok, own_questions, asked}
use Rattle.endpoint.specs.declared.Endpoint.{Endpoint}
use Rattle.endpoint.specs.View.{view}
use Rattle.endpoint.specs.Sound.{sound}
use Rattle.endpoint_plan.specs.Calls.{outcome_of}

-- 11 of two buffers, asked as one
pub short_rooms : (a b : Bool) (qs : List Question) → (a && b) ≡ false → 11 ≡ first ((11, a) ∷ (11, b) ∷ qs)
unfolding first when
short_rooms true b qs h = rw h refl
short_rooms false b qs h = refl

pub roomy : (a b : Bool) (qs : List Question) {m : ℕ} → (a && b) ≡ true → m ≡ first qs → m ≡ first ((11, a) ∷ (11, b) ∷ qs)
unfolding first when
roomy true b qs h e = rw h e
roomy false b qs h e = absurd (false≢true h)

-- a call that has passed them comes to what its octets do
pub ready : (e : Endpoint) (page : List ℕ) (c : Arguments) → longest_frame ≤ c.room → block_room_ok c.call c.block_room ≡ true → page_size ≤ length page → sound e ≡ true
    → goes_with e.local page ≡ true → outcome_of e page c ≡ does c.call c.octets (view e)
unfolding outcome_of asked refusing first when view
ready e page c h b l s k = rw (le-leb longest_frame c.room h, b, le-leb page_size (length page) l, s, k) refl

-- an accepted call, of an end with the number l, has passed all five
pub record Passes (fine : Bool) (l : ℕ) (page : List ℕ) (c : Arguments) : Type 0 where
  pub frame_room : longest_frame ≤ c.room
  pub block_room : block_room_ok c.call c.block_room ≡ true
  pub page_long : page_size ≤ length page
  pub is_fine : fine ≡ true
  pub goes : goes_with l page ≡ true

pub all_passed : (fine : Bool) (l : ℕ) (page : List ℕ) (c : Arguments) → first (own_questions fine l page c) ≡ 0 → Passes fine l page c
all_passed fine l page c h =
    let room = all_yes 11 _ _ h tt in
    let block = all_yes 11 _ _ room.1 tt in
    let long = all_yes 11 _ _ block.1 tt in
    let own = all_yes 12 fine _ long.1 tt in
    record {
      frame_room = leb-true longest_frame c.room room.0;
      block_room = block.0;
      page_long = leb-true page_size (length page) long.0;
      is_fine = own.0;
      goes = (all_yes 15 _ _ own.1 tt).0;
    }

pub accepted_by : (n : ℕ) (o : Outcome Step) → number_of (refusing n o) ≡ 0 → (n ≡ 0) × (number_of o ≡ 0)
unfolding refusing number_of
accepted_by zero o z = (refl, z)
accepted_by (suc n) o z = absurd (omega arith)

pub passes : (fine : Bool) (page : List ℕ) (e : abstract.Endpoint) (c : Arguments) → number_of (asked fine page e c) ≡ 0 → Passes fine e.local page c
unfolding asked
passes fine page e c h = all_passed fine e.local page c (accepted_by (first (own_questions fine e.local page c)) _ h).0
