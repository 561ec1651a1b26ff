-- What a plan makes of the held blocks, in their places.
use Prim.Native.Nat.{ℕ, zero, suc, ◌+◌, ◌-◌, ◌*◌, ◌≤◌, ◌<◌}
use mathlib.Core.Path.{◌≡◌, refl, sym, subst, ap, ap₂, ◌∙◌}
use mathlib.Core.List.{List, [], ◌∷◌, ◌++◌, append-nil, append_assoc}
use native.Mathlib.Nat.{mul-one, sub-zero}
use native.Mathlib.Omega.{arith}
use lib.ListN.{length, take, drop, get_or, set, replicate, length-append, length-drop, length-replicate, replicate-append-replicate, take-append-drop}
use lib.Seq.{take_at, drop_at, drop-drop, set_split, split_at, length-take-le}
use Rattle.octets.specs.Sizes.{longest_block, queue_size, held_size}
use Rattle.octets.specs.Octets.{put, padded}
use Rattle.octets.proofs.Buffers.{length-padded}
use Rattle.frame.specs.Frame.{Block}
use Rattle.protocol.specs.Endpoint.{none_held, lengths_of}
use Rattle.protocol.specs.Table.{first_copy, held_at}
use Rattle.protocol.proofs.Sound.{lengths_length}
use Rattle.step_plan.specs.declared.Places.{Places}
use Rattle.step_plan.specs.declared.Places.TheVariants.{Keep, Join, Release, Clear}
use Rattle.step_plan.specs.Internal.{held_after, HeldRoom}
use Rattle.endpoint.specs.View.{places_size, places_of}
use Rattle.endpoint.proofs.Pad.{padded-padded}
use Rattle.endpoint.proofs.Packs.{Small, length-places, lengths_append, places-append, lengths-dropped, blocks-dropped}
use Rattle.endpoint_places.specs.Internal.{places_after, lengths_after, blocks_after}

-- a write over a part of the same length
put_mid : (A B C D : List ℕ) (n : ℕ) → length A ≡ n → length B ≡ length D → put (A ++ (B ++ C)) n D ≡ A ++ (D ++ C)
unfolding put
put_mid A B C D n e f =
    rw (take_at A (B ++ C) n e, ← drop-drop (length D) n (A ++ (B ++ C)), drop_at A (B ++ C) n e, drop_at B C (length D) f) refl

-- small lists, in parts
small-append : (p q : List Block) → Small (p ++ q) → Small p × Small q
small-append [] q s = (tt, s)
small-append (b ∷ p) q s = let r = small-append p q s.1 in ((s.0, r.0), r.1)

-- places with nothing in them are zeros
pub zeros-padded : (n : ℕ) → replicate n 0 ≡ padded n []
unfolding padded
zeros-padded n = ap (λ (m : ℕ). replicate m 0) (sym (sub-zero n))

none_lengths : (k : ℕ) → lengths_of (replicate k []) ≡ replicate k 0
unfolding lengths_of
none_lengths zero = refl
none_lengths (suc k) = ap (λ (l : List ℕ). 0 ∷ l) (none_lengths k)

none-places : (k : ℕ) → places_of (replicate k []) ≡ replicate (k * longest_block) 0
unfolding places_of
none-places zero = refl
none-places (suc k) =
    let e : longest_block + k * longest_block ≡ suc k * longest_block = omega arith in
    ap₂ (λ (x y : List ℕ). x ++ y) (sym (zeros-padded longest_block)) (none-places k)
    ∙ replicate-append-replicate longest_block (k * longest_block) 0
    ∙ ap (λ (n : ℕ). replicate n 0) e

-- k places more with nothing in them
module _ (q : List Block) (k : ℕ) (h : length q + k ≤ queue_size) where
  lengths_none : padded queue_size (lengths_of (q ++ replicate k [])) ≡ padded queue_size (lengths_of q)
  lengths_none =
      ap (padded queue_size) (lengths_append q (replicate k []) ∙ ap (λ (l : List ℕ). lengths_of q ++ l) (none_lengths k ∙ zeros-padded k))
      ∙ padded-padded queue_size k (lengths_of q) [] (omega arith) (omega (arith, lengths_length q))
      ∙ ap (padded queue_size) (append-nil (lengths_of q))

  blocks-none : Small q → padded places_size (places_of (q ++ replicate k [])) ≡ padded places_size (places_of q)
  blocks-none s =
      ap (padded places_size) (places-append q (replicate k []) ∙ ap (λ (l : List ℕ). places_of q ++ l) (none-places k ∙ zeros-padded (k * longest_block)))
      ∙ padded-padded places_size (k * longest_block) (places_of q) [] (omega arith) (omega (arith, length-places q s))
      ∙ ap (padded places_size) (append-nil (places_of q))

-- places that are written afresh
none_in_lengths : padded queue_size [] ≡ padded queue_size (lengths_of none_held)
unfolding padded lengths_of
none_in_lengths = refl

none_in_blocks : padded places_size [] ≡ padded places_size (places_of none_held)
unfolding places_of
none_in_blocks = sym (blocks-none [] held_size (omega arith) tt)

-- a block where none was
module _ (p r : List Block) (x : Block) (i : ℕ) (e : length p ≡ i) (k : length x ≤ longest_block) where
  lengths-put : put (padded queue_size (lengths_of (p ++ [] ∷ r))) i (length x ∷ []) ≡ padded queue_size (lengths_of (p ++ x ∷ r))
  unfolding padded lengths_of
  lengths-put =
      let z : List ℕ = replicate (queue_size - length (lengths_of (p ++ [] ∷ r))) 0 in
      let n : length (lengths_of (p ++ [] ∷ r)) ≡ length (lengths_of (p ++ x ∷ r)) =
      lengths_length (p ++ [] ∷ r) ∙ length-append p ([] ∷ r) ∙ sym (length-append p (x ∷ r)) ∙ sym (lengths_length (p ++ x ∷ r)) in
      ap (λ (l : List ℕ). put (l ++ z) i (length x ∷ [])) (lengths_append p ([] ∷ r))
      ∙ ap (λ (l : List ℕ). put l i (length x ∷ [])) (append_assoc (lengths_of p) (0 ∷ lengths_of r) z)
      ∙ put_mid (lengths_of p) (0 ∷ []) (lengths_of r ++ z) (length x ∷ []) i (lengths_length p ∙ e) refl
      ∙ sym (append_assoc (lengths_of p) (length x ∷ lengths_of r) z)
      ∙ ap (λ (l : List ℕ). l ++ z) (sym (lengths_append p (x ∷ r)))
      ∙ ap (λ (m : ℕ). lengths_of (p ++ x ∷ r) ++ replicate (queue_size - m) 0) n

  blocks-put : Small p → put (padded places_size (places_of (p ++ [] ∷ r))) (i * longest_block) x ≡ padded places_size (places_of (p ++ x ∷ r))
  unfolding padded places_of
  blocks-put sp =
      let z : List ℕ = replicate (places_size - length (places_of (p ++ [] ∷ r))) 0 in
      let a : length (padded longest_block []) ≡ length (padded longest_block x) = length-padded longest_block [] (omega arith) ∙ sym (length-padded longest_block x k) in
      let n : length (places_of (p ++ [] ∷ r)) ≡ length (places_of (p ++ x ∷ r)) =
      ap length (places-append p ([] ∷ r)) ∙ length-append (places_of p) (padded longest_block [] ++ places_of r) ∙ ap (λ (m : ℕ). length (places_of p) + m) (length-append (padded longest_block []) (places_of r) ∙ ap (λ (m : ℕ). m + length (places_of r)) a ∙ sym (length-append (padded longest_block x) (places_of r)))
      ∙ sym (length-append (places_of p) (padded longest_block x ++ places_of r)) ∙ sym (ap length (places-append p (x ∷ r))) in
      let room : length x + (longest_block - length x) ≡ longest_block = omega arith in
      let free : replicate {A = ℕ} longest_block 0 ≡ replicate (length x) 0 ++ replicate (longest_block - length x) 0 =
      sym (replicate-append-replicate (length x) (longest_block - length x) 0 ∙ ap (λ (m : ℕ). replicate m 0) room) in
      let t : List ℕ = replicate (longest_block - length x) 0 ++ (places_of r ++ z) in
      ap (λ (l : List ℕ). put (l ++ z) (i * longest_block) x) (places-append p ([] ∷ r) ∙ ap (λ (l : List ℕ). places_of p ++ (l ++ places_of r)) free)
      ∙ ap (λ (l : List ℕ). put l (i * longest_block) x) (simp append_assoc)
      ∙ put_mid (places_of p) (replicate (length x) 0) t x (i * longest_block) (omega (arith, length-places p sp)) (length-replicate {A = ℕ} (length x) 0)
      ∙ sym (simp append_assoc)
      ∙ ap (λ (l : List ℕ). l ++ z) (sym (places-append p (x ∷ r)))
      ∙ ap (λ (m : ℕ). places_of (p ++ x ∷ r) ++ replicate (places_size - m) 0) n

module _ (h : List Block) (l8 : length h ≡ held_size) (s : Small h) where
  -- place i is free
  module _ (i : ℕ) (x : Block) (lt : i < held_size) (f : get_or h i [] ≡ []) where
    before : h ≡ take i h ++ [] ∷ drop (suc i) h
    before = split_at h i [] (omega arith) ∙ ap (λ (b : Block). take i h ++ b ∷ drop (suc i) h) f

    after : take i h ++ x ∷ drop (suc i) h ≡ held_at i x h
    unfolding held_at first_copy
    after = sym (ap (λ (b : Block). set h i (first_copy b x)) f ∙ set_split h i x (omega arith))

  left-small : (k : ℕ) → Small (drop k h)
  left-small k = (small-append (take k h) (drop k h) (subst Small (sym (take-append-drop k h)) s)).1

  pub held-lengths-after : (k : Places) (x : Block) → HeldRoom k x h → lengths_after k x (padded queue_size (lengths_of h)) ≡ padded queue_size (lengths_of (held_after k x h))
  unfolding places_after held_after
  held-lengths-after Keep x r = refl
  held-lengths-after (Join i) x r =
      rw mul-one
      (ap (λ (l : List Block). put (padded queue_size (lengths_of l)) i (length x ∷ [])) (before i x r.0 r.1.0)
      ∙ lengths-put (take i h) (drop (suc i) h) x i (length-take-le i h (omega (arith, r.0))) r.1.1.1
      ∙ ap (λ (l : List Block). padded queue_size (lengths_of l)) (after i x r.0 r.1.0))
  held-lengths-after (Release k) x r =
      rw mul-one (lengths-dropped h k (omega arith) (omega (arith, r.0)) ∙ sym (lengths_none (drop k h) k (omega (arith, length-drop k h, r.0))))
  held-lengths-after Clear x r =
      ap (λ (n : ℕ). replicate n 0) (length-padded queue_size (lengths_of h) (omega (arith, lengths_length h))) ∙ zeros-padded queue_size ∙ none_in_lengths

  pub held-blocks-after : (k : Places) (x : Block) → HeldRoom k x h → blocks_after k x (padded places_size (places_of h)) ≡ padded places_size (places_of (held_after k x h))
  unfolding places_after held_after
  held-blocks-after Keep x r = refl
  held-blocks-after (Join i) x r =
      let t = small-append (take i h) ([] ∷ drop (suc i) h) (subst Small (before i x r.0 r.1.0) s) in
      ap (λ (l : List Block). put (padded places_size (places_of l)) (i * longest_block) x) (before i x r.0 r.1.0)
      ∙ blocks-put (take i h) (drop (suc i) h) x i (length-take-le i h (omega (arith, r.0))) r.1.1.1 t.0
      ∙ ap (λ (l : List Block). padded places_size (places_of l)) (after i x r.0 r.1.0)
  held-blocks-after (Release k) x r =
      blocks-dropped h k (omega arith) (omega (arith, r.0)) s ∙ sym (blocks-none (drop k h) k (omega (arith, length-drop k h, r.0)) (left-small k))
  held-blocks-after Clear x r =
      ap (λ (n : ℕ). replicate n 0) (length-padded places_size (places_of h) (omega (arith, length-places h s))) ∙ zeros-padded places_size ∙ none_in_blocks
