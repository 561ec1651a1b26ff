-- The struct that holds a sound endpoint is sound.
use Prim.Native.Nat.{ℕ, zero, suc, ◌+◌, ◌-◌, ◌*◌, ◌≤◌, ◌<◌}
use mathlib.Core.Path.{◌≡◌, refl, sym, ap, ◌∙◌}
use mathlib.Core.Bool.{true}
use mathlib.Core.List.{List, [], ◌∷◌}
use native.Mathlib.Nat.{min-le_left}
use native.Mathlib.Omega.{arith}
use borrow.Author.Tests.{lt-ltb, le-ltb, eq-eqb}
use lib.ListN.{length, take, drop, get_or, replicate, length-take, get_or-append}
use lib.Seq.{get_or-append-add, get_or-drop, get_or-take, drop-cons}
use Rattle.octets.specs.Octets.{padded}
use Rattle.octets.specs.Sizes.{longest_block, queue_size, held_size}
use Rattle.octets.specs.Test.{when, in_range}
use Rattle.octets.proofs.Buffers.{length-padded}
use Rattle.octets.proofs.Test.{both, joined, in_range_lem}
use Rattle.octets.proofs.Each.{all_hold, zeros_of}
use Rattle.frame.specs.Frame.{Block}
use Rattle.protocol.specs.Endpoint as abstract
use Rattle.protocol.specs.Endpoint.{sized, lengths_of, all_of, held_sound}
use Rattle.protocol.proofs.Sound.{sized-at, length_at, lengths_length, Sound, sound_so}
use Rattle.endpoint.specs.View.{places_size, places_of, pack, view}
use Rattle.endpoint.specs.Sound.{place_length_ok, lengths_ok, unused_at, unused_ok, sound}
use Rattle.endpoint.proofs.Pad.{padded-full}
use Rattle.endpoint.proofs.Packs.{Small, view-pack, length-places, drop-places}
use Rattle.endpoint.proofs.Sounds.{Numbers, by_lt}

pub small_of : (q : List Block) → sized q ≡ true → Small q
unfolding sized
small_of [] s = tt
small_of (b ∷ q) s = ((sized-at 0 (b ∷ q) s (omega arith)).1, small_of q (both (in_range 1 longest_block (length b)) (sized q) s).1)

small_at : (q : List Block) → Small q → (i : ℕ) → length (get_or q i []) ≤ longest_block
small_at [] s i = omega arith
small_at (b ∷ q) s zero = s.0
small_at (b ∷ q) s (suc i) = small_at q s.1 i

small_each : (q : List Block) → ((i : ℕ) → length (get_or q i []) ≤ longest_block) → Small q
small_each [] h = tt
small_each (b ∷ q) h = (h 0, small_each q (λ i. h (suc i)))

zeros_in : (n i : ℕ) → get_or {A = ℕ} (replicate n 0) i 0 ≡ 0
zeros_in zero i = refl
zeros_in (suc n) zero = refl
zeros_in (suc n) (suc i) = zeros_in n i

past : (n : ℕ) (s : List ℕ) (i : ℕ) → length s ≤ i → get_or (padded n s) i 0 ≡ 0
unfolding padded
past n s i h =
    let e : length s + (i - length s) ≡ i = omega arith in
    rw e at (get_or-append-add s (replicate (n - length s) 0) (i - length s) 0 ∙ zeros_in (n - length s) (i - length s))

inside : (n : ℕ) (s : List ℕ) (i : ℕ) → i < length s → get_or (padded n s) i 0 ≡ get_or s i 0
unfolding padded
inside n s i h = get_or-append s (replicate (n - length s) 0) 0 i h

-- eight places with these blocks in them
module _ (q : List Block) where
  length-in : (i : ℕ) → i < length q → get_or (padded queue_size (lengths_of q)) i 0 ≡ length (get_or q i [])
  length-in i h = inside queue_size (lengths_of q) i (omega (arith, lengths_length q)) ∙ length_at q i

  length-out : (i : ℕ) → length q ≤ i → get_or (padded queue_size (lengths_of q)) i 0 ≡ 0
  length-out i h = past queue_size (lengths_of q) i (omega (arith, lengths_length q))

  lengths-fine : sized q ≡ true → lengths_ok (length q) (padded queue_size (lengths_of q)) ≡ true
  unfolding lengths_ok place_length_ok when
  lengths-fine s =
      all_hold _ queue_size
      (λ i _.
      let x = get_or (padded queue_size (lengths_of q)) i 0 in
      by_lt i (length q)
      (λ h. let z = sized-at i q s h in rw (lt-ltb i (length q) h) (in_range_lem 1 longest_block x (rw (length-in i h) z.0) (rw (length-in i h) z.1)))
      (λ h. rw (le-ltb i (length q) h) (eq-eqb x 0 (length-out i h))))

  module _ (s : Small q) where
    -- an octet of place i after its block
    after : (i j : ℕ) → j < longest_block → get_or (padded queue_size (lengths_of q)) i 0 ≤ j → get_or (padded places_size (places_of q)) (i * longest_block + j) 0 ≡ 0
    unfolding places_of
    after i j k m =
        let lp : length (places_of q) ≡ length q * longest_block = length-places q s in
        by_lt i (length q)
        (λ h.
        let b : Block = get_or q i [] in
        let m' : length b ≤ j = rw (length-in i h) at m in
        inside places_size (places_of q) (i * longest_block + j) (omega arith)
        ∙ sym (get_or-drop (i * longest_block) (places_of q) j 0)
        ∙ ap (λ (l : List ℕ). get_or l j 0) (drop-places i q s ∙ ap places_of (drop-cons q i [] h))
        ∙ get_or-append (padded longest_block b) (places_of (drop (suc i) q)) 0 j (rw (length-padded longest_block b (small_at q s i)) k)
        ∙ past longest_block b j m')
        (λ h. past places_size (places_of q) (i * longest_block + j) (omega arith))

    unused-fine : unused_ok (padded queue_size (lengths_of q)) (padded places_size (places_of q)) ≡ true
    unfolding unused_ok unused_at
    unused-fine =
        all_hold _ queue_size
        (λ i _.
        let n = get_or (padded queue_size (lengths_of q)) i 0 in
        let d : List ℕ = drop (i * longest_block + n) (padded places_size (places_of q)) in
        zeros_of (take (longest_block - n) d)
        (λ j h.
        let h' : j < longest_block - n = omega (arith, length-take (longest_block - n) d, min-le_left (longest_block - n) (length d)) in
        let at : i * longest_block + (n + j) ≡ i * longest_block + n + j = omega arith in
        get_or-take (longest_block - n) d j 0 h'
        ∙ get_or-drop (i * longest_block + n) (padded places_size (places_of q)) j 0
        ∙ rw at at (after i (n + j) (omega arith) (omega arith))))

module _ (a : abstract.Endpoint) (s : abstract.sound a ≡ true) where
  known : Sound a
  known = sound_so a s

  small-queue : Small a.queue
  small-queue = small_of a.queue known.blocks

  pub small-held : Small a.held
  small-held = small_each a.held (λ i. by_lt 0 (length (get_or a.held i [])) (λ k. (known.fitting i k).0) (λ k. omega arith))

  pub held : view (pack a) ≡ a
  held = view-pack a small-queue small-held known.laden.eight

  pub pack-sound : sound (pack a) ≡ true
  unfolding sound abstract.sound pack
  pack-sound =
      let b = both (Numbers (pack a)) _ s in
      let eight = padded-full held_size (lengths_of a.held) (lengths_length a.held ∙ known.laden.eight) in
      let fine : all_of (held_sound a.state a.delivered (padded held_size (lengths_of a.held))) ≡ true = rw eight (both (sized a.queue) _ b.1).1 in
      joined b.0
      (joined (joined (lengths-fine a.queue known.blocks) (unused-fine a.queue small-queue)) (joined fine (unused-fine a.held small-held)))
