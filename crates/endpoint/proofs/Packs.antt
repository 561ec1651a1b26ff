-- The struct that a list of blocks is packed into: blocks join and leave, and the way back from a tidy struct.
use mathlib.Core.Path.{◌≡◌, refl, sym, ap, ap₂, ◌∙◌}
use mathlib.Core.List.{List, [], ◌∷◌, ◌++◌, append-nil, append_assoc}
use Prim.Native.Nat.{ℕ, zero, suc, ◌+◌, ◌-◌, ◌*◌, ◌/◌, ◌%◌, ◌≤◌, ◌<◌}
use native.Mathlib.Omega.{arith}
use lib.ListN.{length, take, drop, get_or, replicate, length-append, length-drop, get_or-append}
use lib.Seq.{take_at, drop_at, take-length, take-suc, take-add, take-take, drop-cons, drop-drop, drop-nil, get_or-take, get_or-drop, drop-append-le, length-take-le}
use Rattle.octets.proofs.Buffers.{length-padded}
use Rattle.octets.proofs.Parts.{length_part}
use Rattle.octets.specs.Sizes.{longest_block, queue_size, held_size}
use Rattle.octets.specs.Octets.{put, padded}
use Rattle.frame.specs.Frame.{Block}
use Rattle.protocol.specs.Endpoint as abstract
use Rattle.protocol.specs.Endpoint.{lengths_of}
use Rattle.protocol.proofs.Sound.{length_at, lengths_length}
use Rattle.endpoint.specs.declared.Endpoint.{Endpoint}
pub use Rattle.endpoint.specs.View.{Long}
use Rattle.endpoint.specs.View.{places_size, places_of, pack, tab, place_block, view}
use Rattle.endpoint.proofs.Pad.{put-padded, padded-padded, drop-padded, padded_is}

-- every block has at most 64 bytes
abbrev pub Small : List Block → Type 0
Small [] = Unit {0}
Small (b ∷ q) = (length b ≤ longest_block) × Small q

small-append : (q : List Block) (b : Block) → Small q → length b ≤ longest_block → Small (q ++ (b ∷ []))
small-append [] b h k = (k, tt)
small-append (c ∷ q) b h k = (h.0, small-append q b h.1 k)

pub length-places : (q : List Block) → Small q → length (places_of q) ≡ length q * longest_block
unfolding places_of
length-places [] h = refl
length-places (b ∷ q) h = rw (length-append, length-padded longest_block b h.0, length-places q h.1) (omega arith)

pub lengths_append : (q r : List Block) → lengths_of (q ++ r) ≡ lengths_of q ++ lengths_of r
unfolding lengths_of
lengths_append [] r = refl
lengths_append (b ∷ q) r = ap (λ (l : List ℕ). length b ∷ l) (lengths_append q r)

pub places-append : (q r : List Block) → places_of (q ++ r) ≡ places_of q ++ places_of r
unfolding places_of
places-append [] r = refl
places-append (b ∷ q) r = rw (places-append q r) (sym (append_assoc (padded longest_block b) (places_of q) (places_of r)))

drop_lengths : (k : ℕ) (q : List Block) → drop k (lengths_of q) ≡ lengths_of (drop k q)
unfolding lengths_of
drop_lengths zero q = refl
drop_lengths (suc k) [] = refl
drop_lengths (suc k) (b ∷ q) = drop_lengths k q

pub drop-places : (k : ℕ) (q : List Block) → Small q → drop (k * longest_block) (places_of q) ≡ places_of (drop k q)
unfolding places_of
drop-places zero q h = refl
drop-places (suc k) [] h = drop-nil (suc k * longest_block)
drop-places (suc k) (b ∷ q) h =
    let e : suc k * longest_block ≡ longest_block + k * longest_block = omega arith in
    rw (e, ← drop-drop (k * longest_block) longest_block (padded longest_block b ++ places_of q), drop_at (padded longest_block b) (places_of q) longest_block (length-padded longest_block b h.0))
    (drop-places k q h.1)

-- a block joins
pub lengths_added : (q : List Block) (b : Block) → length q < queue_size → put (padded queue_size (lengths_of q)) (length q) (length b ∷ []) ≡ padded queue_size (lengths_of (q ++ (b ∷ [])))
unfolding lengths_of
lengths_added q b h =
    let ll : length (lengths_of q) ≡ length q = lengths_length q in
    rw (← ll) (put-padded queue_size (lengths_of q) (length b ∷ []) (omega arith)) ∙ ap (padded queue_size) (sym (lengths_append q (b ∷ [])))

pub blocks_added : (q : List Block) (b : Block) → Small q → length q < queue_size → length b ≤ longest_block
    → put (padded places_size (places_of q)) (length q * longest_block) b ≡ padded places_size (places_of (q ++ (b ∷ [])))
unfolding places_of
blocks_added q b s h k =
    let lp : length (places_of q) ≡ length q * longest_block = length-places q s in
    rw (← lp) (put-padded places_size (places_of q) b (omega arith))
    ∙ sym (padded-padded places_size longest_block (places_of q) b k (omega arith))
    ∙ ap (λ (l : List ℕ). padded places_size (places_of q ++ l)) (sym (append-nil (padded longest_block b)))
    ∙ ap (padded places_size) (sym (places-append q (b ∷ [])))

-- the k oldest blocks leave
module _ (q : List Block) (k : ℕ) (h : length q ≤ queue_size) (m : k ≤ length q) where
  pub lengths-dropped : drop k (padded queue_size (lengths_of q)) ++ replicate k 0 ≡ padded queue_size (lengths_of (drop k q))
  lengths-dropped =
      let ll : length (lengths_of q) ≡ length q = lengths_length q in
      drop-padded queue_size k (lengths_of q) (omega arith) (omega arith) ∙ ap (padded queue_size) (drop_lengths k q)

  pub blocks-dropped : Small q → drop (k * longest_block) (padded places_size (places_of q)) ++ replicate (k * longest_block) 0 ≡ padded places_size (places_of (drop k q))
  blocks-dropped s =
      let lp : length (places_of q) ≡ length q * longest_block = length-places q s in
      drop-padded places_size (k * longest_block) (places_of q) (omega arith) (omega arith) ∙ ap (padded places_size) (drop-places k q s)

-- view
pub length-tab : (n : ℕ) (f : ℕ → Block) → length (tab n f) ≡ n
unfolding tab
length-tab zero f = refl
length-tab (suc n) f = rw (length-append, length-tab n f) (omega arith)

tab_is : (q : List Block) (f : ℕ → Block) (n : ℕ) → n ≤ length q → ((i : ℕ) → i < length q → f i ≡ get_or q i []) → tab n f ≡ take n q
unfolding tab
tab_is q f zero h e = refl
tab_is q f (suc n) h e = rw (tab_is q f n (omega arith) e, e n h) (sym (take-suc q n [] h))

block_is : (q : List Block) (i : ℕ) → Small q → i < length q → place_block (padded queue_size (lengths_of q)) (padded places_size (places_of q)) i ≡ get_or q i []
unfolding place_block padded places_of
block_is q i s h =
    let b : Block = get_or q i [] in
    let zl : List ℕ = replicate (queue_size - length (lengths_of q)) 0 in
    let zp : List ℕ = replicate (places_size - length (places_of q)) 0 in
    let zb : List ℕ = replicate (longest_block - length b) 0 in
    let x : get_or (lengths_of q ++ zl) i 0 ≡ length b = get_or-append (lengths_of q) zl 0 i (omega (arith, lengths_length q)) ∙ length_at q i in
    let y : drop (i * longest_block) (places_of q ++ zp) ≡ ((b ++ zb) ++ places_of (drop (suc i) q)) ++ zp =
    drop-append-le (i * longest_block) (places_of q) zp (omega (arith, length-places q s)) ∙ ap (λ (l : List ℕ). l ++ zp) (drop-places i q s ∙ ap places_of (drop-cons q i [] h)) in
    ap₂ (λ (n : ℕ) (l : List ℕ). take n l) x y
    ∙ simp append_assoc (take_at b (zb ++ (places_of (drop (suc i) q) ++ zp)) (length b) refl)

blocks_are : (q : List Block) → Small q → tab (length q) (place_block (padded queue_size (lengths_of q)) (padded places_size (places_of q))) ≡ q
blocks_are q s =
    tab_is q (place_block (padded queue_size (lengths_of q)) (padded places_size (places_of q))) (length q) (omega arith) (λ i h. block_is q i s h) ∙ take-length q

pub view-pack : (a : abstract.Endpoint) → Small a.queue → Small a.held → length a.held ≡ held_size → view (pack a) ≡ a
unfolding view pack
view-pack a s t h =
    let eq = blocks_are a.queue s in
    let eh = rw h at (blocks_are a.held t) in
    λ i. record { state = a.state; local = a.local; remote = a.remote; accepted = a.accepted; delivered = a.delivered; queue = eq i; held = eh i }

-- what soundness says of the lengths and the blocks of eight places, of which w are used
pub record Tidy (w : ℕ) (l b : List ℕ) : Type 0 where
  pub eight : length l ≡ queue_size
  pub bytes : length b ≡ places_size
  pub few : w ≤ queue_size
  pub short : (i : ℕ) → i < w → get_or l i 0 ≤ longest_block
  pub unused : (i : ℕ) → w ≤ i → i < queue_size → get_or l i 0 ≡ 0
  pub clear : (k : ℕ) → k < places_size → get_or l (k / longest_block) 0 ≤ k % longest_block → get_or b k 0 ≡ 0

module _ (l b : List ℕ) (W : ℕ) (T : Tidy W l b) where
  pub length-block : (i : ℕ) → i < W → length (place_block l b i) ≡ get_or l i 0
  unfolding place_block
  length-block i h = length_part b (i * longest_block) (get_or l i 0) (omega (arith, T.short i h))

  pub lengths-tab : (w : ℕ) → w ≤ W → lengths_of (tab w (place_block l b)) ≡ take w l
  unfolding tab lengths_of
  lengths-tab zero h = refl
  lengths-tab (suc w) h =
      rw (lengths_append (tab w (place_block l b)) (place_block l b w ∷ []), lengths-tab w (omega arith), length-block w h)
      (sym (take-suc l w 0 (omega arith)))

  pub small-tab : (w : ℕ) → w ≤ W → Small (tab w (place_block l b))
  unfolding tab
  small-tab zero h = tt
  small-tab (suc w) h = small-append (tab w (place_block l b)) (place_block l b w) (small-tab w (omega arith)) (rw (length-block w h) (T.short w h))

  place_is : (w : ℕ) → w < W → padded longest_block (place_block l b w) ≡ take longest_block (drop (w * longest_block) b)
  unfolding place_block
  place_is w h =
      let d : List ℕ = drop (w * longest_block) b in
      let x = get_or l w 0 in
      let hx : x ≤ longest_block = T.short w h in
      let ld : length (take longest_block d) ≡ longest_block = length-take-le longest_block d (rw length-drop (omega arith)) in
      rw (← take-take x longest_block d hx)
      (padded_is longest_block (take longest_block d) x ld hx
      (λ i v u.
      let k1 : (w * longest_block + i) / longest_block ≡ w = omega arith in
      let k2 : (w * longest_block + i) % longest_block ≡ i = omega arith in
      rw (get_or-take longest_block d i 0 u, get_or-drop) (T.clear (w * longest_block + i) (omega arith) (rw (k1, k2) v))))

  places-tab : (w : ℕ) → w ≤ W → places_of (tab w (place_block l b)) ≡ take (w * longest_block) b
  unfolding tab places_of
  places-tab zero h = refl
  places-tab (suc w) h =
      let e : suc w * longest_block ≡ w * longest_block + longest_block = omega arith in
      rw (places-append (tab w (place_block l b)) (place_block l b w ∷ []), places-tab w (omega arith), append-nil (padded longest_block (place_block l b w)), place_is w h, e)
      (sym (take-add (w * longest_block) longest_block b))

  pub lengths-back : padded queue_size (lengths_of (tab W (place_block l b))) ≡ l
  lengths-back = rw (lengths-tab W (omega arith)) (padded_is queue_size l W T.eight T.few T.unused)

  pub blocks-back : padded places_size (places_of (tab W (place_block l b))) ≡ b
  blocks-back =
      rw (places-tab W (omega arith))
      (padded_is places_size b (W * longest_block) T.bytes (omega arith)
      (λ k v u. T.clear k u (omega (arith, T.unused (k / longest_block) (omega arith) (omega arith)))))

pub pack-view : (e : Endpoint) → Tidy e.waiting e.lengths e.blocks → Tidy held_size e.held_lengths e.held_blocks → pack (view e) ≡ e
unfolding pack view
pack-view e T H =
    let n : length (tab e.waiting (place_block e.lengths e.blocks)) ≡ e.waiting = length-tab e.waiting (place_block e.lengths e.blocks) in
    let el = lengths-back e.lengths e.blocks e.waiting T in
    let eb = blocks-back e.lengths e.blocks e.waiting T in
    let hl = lengths-back e.held_lengths e.held_blocks held_size H in
    let hb = blocks-back e.held_lengths e.held_blocks held_size H in
    λ i. record {
      state = e.state;
      local = e.local;
      remote = e.remote;
      accepted = e.accepted;
      delivered = e.delivered;
      waiting = n i;
      lengths = el i;
      blocks = eb i;
      held_lengths = hl i;
      held_blocks = hb i;
    }

pub count : (e : Endpoint) → length (view e).queue ≡ e.waiting
unfolding view
count e = length-tab e.waiting (place_block e.lengths e.blocks)

pub small : (e : Endpoint) → Tidy e.waiting e.lengths e.blocks → Small (view e).queue
unfolding view
small e T = small-tab e.lengths e.blocks e.waiting T e.waiting (omega arith)

pub tab-head : (n : ℕ) (f : ℕ → Block) → tab (suc n) f ≡ f 0 ∷ tab n (λ i. f (suc i))
unfolding tab
tab-head zero f = refl
tab-head (suc n) f = ap (λ (q : List Block). q ++ (f (suc n) ∷ [])) (tab-head n f)
