-- What a sound struct is known to be, and that soundness means the same of the struct and of the endpoint that it holds.
use Prim.Native.Nat.{ℕ, zero, suc, ◌+◌, ◌-◌, ◌*◌, ◌/◌, ◌%◌, ◌≤◌, ◌<◌}
use mathlib.Core.Path.{◌≡◌, refl, sym, ap, ◌∙◌}
use mathlib.Core.Bool.{Bool, true, false, ◌&&◌, and-true, and-false}
use mathlib.Core.List.{List, [], ◌∷◌}
use native.Mathlib.Nat.{min-le_left}
use native.Mathlib.Omega.{arith}
use lib.Dec.{leb, ltb, eqb, leb-zero}
use lib.ListN.{length, take, drop, get_or, length-take, length-drop}
use lib.Seq.{get_or-drop, get_or-take, take_all}
use borrow.Author.Tests.{lt-ltb, le-ltb, lt-leb, le-leb, eq-eqb, ne_eqb, eqb-true, eqb-false, leb-true}
use Rattle.octets.specs.Sizes.{longest_block, queue_size, held_size, last_number}
use Rattle.octets.specs.Test.{when, in_range, all_below, zeros}
use Rattle.octets.proofs.Test.{split, both, joined, within, in_range_lem, if-lt}
use Rattle.octets.proofs.Each.{all-at, all_hold, alike, zeros-at, zeros_of}
use Rattle.protocol.specs.Endpoint as abstract
use Rattle.protocol.specs.Endpoint.{sized, lengths_of, all_of, numbers_sound, held_sound}
use Rattle.protocol.proofs.Sound.{sized-append, Sound, sound_so}
use Rattle.endpoint.specs.declared.Endpoint.{Endpoint}
use Rattle.endpoint.specs.View.{places_size, tab, place_block, view}
use Rattle.endpoint.specs.Sound.{place_length_ok, lengths_ok, unused_at, unused_ok, sound}
use Rattle.endpoint.specs.Internal.{place_ok, places_ok}
use Rattle.endpoint.proofs.Packs.{Long, Tidy, length-tab, length-block, lengths-tab}

abbrev pub Numbers : Endpoint → Bool
Numbers e = all_of (numbers_sound e.state e.local e.remote e.accepted e.delivered e.waiting)

pub numbers_few : (e : Endpoint) → Numbers e ≡ true → e.waiting ≤ queue_size
unfolding numbers_sound all_of
numbers_few e h = leb-true e.waiting queue_size (both (leb e.waiting queue_size) _ (both (in_range 0 5 e.state) _ h).1).0

-- tests that mean the same of each number below another
all_same : (p q : ℕ → Bool) (n : ℕ) → ((i : ℕ) → i < n → p i ≡ q i) → all_below n p ≡ all_below n q
unfolding all_below
all_same p q zero h = refl
all_same p q (suc n) h = rw (all_same p q n (λ i k. h i (omega arith)), h n (omega arith)) refl

-- by which of two numbers is less
pub by_lt : {A : Type 0} (a b : ℕ) → (a < b → A) → (b ≤ a → A) → A
by_lt {A} a b h g = if-lt (λ (b : Bool). A) a b {x = true} {y = false} h g

-- all is 0 from w on
after-zero : (w : ℕ) (l : List ℕ) → zeros (drop w l) ≡ true → (i : ℕ) → w ≤ i → get_or l i 0 ≡ 0
after-zero w l z i m =
    let at : w + (i - w) ≡ i = omega arith in
    rw at at (sym (get_or-drop w l (i - w) 0) ∙ zeros-at (drop w l) (i - w) z)

-- an octet after the block of its place is 0
clear_at : (l b : List ℕ) → unused_ok l b ≡ true → (k : ℕ) → k < places_size → get_or l (k / longest_block) 0 ≤ k % longest_block → get_or b k 0 ≡ 0
unfolding unused_ok unused_at
clear_at l b u k h m =
    let i = k / longest_block in
    let n = get_or l i 0 in
    let z = all-at (λ j. zeros (unused_at l b j)) queue_size i (omega arith) u in
    let at : i * longest_block + n + (k % longest_block - n) ≡ k = omega arith in
    let d = drop (i * longest_block + n) b in
    rw at at (sym (get_or-drop (i * longest_block + n) b (k % longest_block - n) 0) ∙ sym (get_or-take (longest_block - n) d (k % longest_block - n) 0 (omega arith)) ∙ zeros-at (take (longest_block - n) d) (k % longest_block - n) z)

-- the lengths, where w blocks wait
module _ (w : ℕ) (l : List ℕ) (h : lengths_ok w l ≡ true) where
  length_at : (i : ℕ) → i < queue_size → place_length_ok w i (get_or l i 0) ≡ true
  unfolding lengths_ok
  length_at i n = all-at (λ k. place_length_ok w k (get_or l k 0)) queue_size i n h

  used : (i : ℕ) → i < w → w ≤ queue_size → (1 ≤ get_or l i 0) × (get_or l i 0 ≤ longest_block)
  unfolding place_length_ok when
  used i m n = within 1 longest_block (get_or l i 0) (rw (lt-ltb i w m) at (length_at i (omega arith)))

  rests : (i : ℕ) → w ≤ i → i < queue_size → get_or l i 0 ≡ 0
  unfolding place_length_ok when
  rests i m n = eqb-true (get_or l i 0) 0 (rw (le-ltb i w m) at (length_at i n))

-- The tests of each place, and the tests of all lengths and of all that is unused, are the same in another order.
all_both : (p q : ℕ → Bool) (n : ℕ) → all_below n (λ i. p i && q i) ≡ (all_below n p && all_below n q)
all_both p q n =
    alike (all_below n (λ i. p i && q i)) (all_below n p && all_below n q)
    (λ t.
    let at : (i : ℕ) → i < n → (p i ≡ true) × (q i ≡ true) = λ i m. both (p i) (q i) (all-at (λ k. p k && q k) n i m t) in
    joined (all_hold p n (λ i m. (at i m).0)) (all_hold q n (λ i m. (at i m).1)))
    (λ t. let a = both (all_below n p) (all_below n q) t in all_hold (λ i. p i && q i) n (λ i m. joined (all-at p n i m a.0) (all-at q n i m a.1)))

by_place : (filled used : ℕ) (l b : List ℕ) (q : ℕ → ℕ → Bool)
    → ((i x : ℕ) → i < queue_size → when (eqb x 0) (leb filled i) (ltb i used && leb x longest_block) ≡ q i x)
    → places_ok filled used l b ≡ (all_below queue_size (λ i. q i (get_or l i 0)) && unused_ok l b)
unfolding places_ok place_ok unused_ok
by_place filled used l b q e =
    all_both _ (λ i. zeros (unused_at l b i)) queue_size
    ∙ ap (λ (t : Bool). t && unused_ok l b) (all_same _ (λ i. q i (get_or l i 0)) queue_size (λ i m. e i (get_or l i 0) m))

-- the length at a place, where w blocks wait, and where blocks are held
waiting-length : (w i x : ℕ) → i < queue_size → when (eqb x 0) (leb w i) (ltb i w && leb x longest_block) ≡ place_length_ok w i x
unfolding place_length_ok when in_range
waiting-length w i zero _ = by_lt i w (λ m. rw (lt-ltb i w m, lt-leb w i m) refl) (λ m. rw (le-ltb i w m, le-leb w i m) refl)
waiting-length w i (suc x) _ =
    rw (ne_eqb (suc x) 0 (λ e. omega arith), le-leb 1 (suc x) (omega arith)) (by_lt i w (λ m. rw (lt-ltb i w m) refl) (λ m. rw (le-ltb i w m) refl))

held_length : (i x : ℕ) → i < held_size → when (eqb x 0) (leb 0 i) (ltb i held_size && leb x longest_block) ≡ leb x longest_block
unfolding when
held_length i zero m = rw (leb-zero i) refl
held_length i (suc x) m = rw (ne_eqb (suc x) 0 (λ e. omega arith), lt-ltb i held_size m) refl

abbrev short_in : List ℕ → Bool
short_in l = all_below held_size (λ i. leb (get_or l i 0) longest_block)

abbrev numbered_in : ℕ → List ℕ → Bool
numbered_in e l = all_below held_size (λ i. when (eqb (get_or l i 0) 0) true (ltb (e + i) last_number))

-- what is left of a test where the other fails
only : (t : Bool) → when t true false ≡ t
unfolding when
only true = refl
only false = refl

-- no held number is above 4294967294: from place last_number - e on, nothing is held
held_numbers : (e : ℕ) (l : List ℕ) → length l ≡ held_size → zeros (drop (last_number - e) l) ≡ numbered_in e l
held_numbers e l l8 =
    let n = last_number - e in
    alike (zeros (drop n l)) (numbered_in e l)
    (λ t.
    all_hold _ held_size
    (λ i _.
    by_lt (e + i) last_number
    (λ m. rw (lt-ltb (e + i) last_number m) (split (λ (u : Bool). u ≡ true) (eqb (get_or l i 0) 0) (λ _. refl) (λ _. refl)))
    (λ m. rw (le-ltb (e + i) last_number m) (only (eqb (get_or l i 0) 0) ∙ eq-eqb (get_or l i 0) 0 (after-zero n l t i (omega arith))))))
    (λ t.
    zeros_of (drop n l)
    (λ j v.
    let p = all-at (λ i. when (eqb (get_or l i 0) 0) true (ltb (e + i) last_number)) held_size (n + j) (omega (arith, length-drop n l)) t in
    get_or-drop n l j 0 ∙ eqb-true (get_or l (n + j) 0) 0 (sym (only (eqb (get_or l (n + j) 0) 0)) ∙ rw (le-ltb (e + (n + j)) last_number (omega arith)) at p)))

-- the tests of held_ok, in the order of held_sound
regroup : (s n a u : Bool) → (s && (n && (a && u))) ≡ ((a && (n && (s && true))) && u)
regroup false n a u = rw (and-false n, and-false a) refl
regroup true false a u = rw (and-false a) refl
regroup true true a u = rw (and-true a) refl

module _ (st e : ℕ) (l b : List ℕ) (l8 : length l ≡ held_size) (l512 : length b ≡ places_size) where
  -- where none is held
  module _ (z : zeros l ≡ true) where
    none-sound : all_of (held_sound st e l) ≡ true
    unfolding held_sound all_of
    none-sound =
        joined (eq-eqb (length l) held_size l8)
        (joined (all_hold _ held_size (λ i _. le-leb (get_or l i 0) longest_block (omega (arith, zeros-at l i z))))
        (joined (all_hold _ held_size (λ i _. split (λ (u : Bool). u ≡ true) _ (λ _. refl) (λ t. absurd (eqb-false (get_or l i 0) 0 t (zeros-at l i z)))))
        (joined (split (λ (u : Bool). u ≡ true) (eqb st abstract.established) (λ _. refl) (λ _. z)) refl)))

    none-unused : zeros b ≡ unused_ok l b
    unfolding unused_ok unused_at
    none-unused =
        alike (zeros b) (unused_ok l b)
        (λ t.
        all_hold (λ i. zeros (unused_at l b i)) queue_size
        (λ i _.
        let n = get_or l i 0 in
        let d = drop (i * longest_block + n) b in
        zeros_of (take (longest_block - n) d)
        (λ j v.
        let v' : j < longest_block - n = omega (arith, length-take (longest_block - n) d, min-le_left (longest_block - n) (length d)) in
        get_or-take (longest_block - n) d j 0 v' ∙ get_or-drop (i * longest_block + n) b j 0 ∙ zeros-at b (i * longest_block + n + j) t)))
        (λ t. zeros_of b (λ k v. clear_at l b t k (omega arith) (omega (arith, zeros-at l (k / longest_block) z))))

    pub none_held_lem : zeros b ≡ (all_of (held_sound st e l) && unused_ok l b)
    none_held_lem = none-unused ∙ sym (rw none-sound refl)

  -- where one is
  pub some-held : zeros l ≡ false
      → (eqb st abstract.established && (zeros (drop (last_number - e) l) && places_ok 0 held_size l b)) ≡ (all_of (held_sound st e l) && unused_ok l b)
  unfolding held_sound all_of
  some-held z =
      rw (by_place 0 held_size l b (λ _ x. leb x longest_block) held_length, held_numbers e l l8, eq-eqb (length l) held_size l8, z, only (eqb st abstract.established))
      (regroup (eqb st abstract.established) (numbered_in e l) (short_in l) (unused_ok l b))

-- where the numbers are sound, the places decide
pub places_decide : (e : Endpoint) → Numbers e ≡ true → {w h : Bool} → w ≡ places_ok e.waiting e.waiting e.lengths e.blocks
    → h ≡ (all_of (held_sound e.state e.delivered e.held_lengths) && unused_ok e.held_lengths e.held_blocks) → (w && h) ≡ sound e
unfolding sound lengths_ok
places_decide e n ew eh =
    rw (n, ew, eh, by_place e.waiting e.waiting e.lengths e.blocks (place_length_ok e.waiting) (waiting-length e.waiting)) refl

module _ (e : Endpoint) (s : sound e ≡ true) (long : Long e) where
  abbrev Waits : Bool
  Waits = lengths_ok e.waiting e.lengths && unused_ok e.lengths e.blocks

  abbrev Holds : Bool
  Holds = all_of (held_sound e.state e.delivered e.held_lengths)

  numbers_ok_lem : Numbers e ≡ true
  unfolding sound
  numbers_ok_lem = (both (Numbers e) _ s).0

  places-ok : (Waits ≡ true) × ((Holds && unused_ok e.held_lengths e.held_blocks) ≡ true)
  unfolding sound
  places-ok = both Waits _ (both (Numbers e) _ s).1

  waits : (lengths_ok e.waiting e.lengths ≡ true) × (unused_ok e.lengths e.blocks ≡ true)
  waits = both (lengths_ok e.waiting e.lengths) _ places-ok.0

  holds : (Holds ≡ true) × (unused_ok e.held_lengths e.held_blocks ≡ true)
  holds = both Holds _ places-ok.1

  few : e.waiting ≤ queue_size
  few = numbers_few e numbers_ok_lem

  short : (i : ℕ) → i < e.waiting → (1 ≤ get_or e.lengths i 0) × (get_or e.lengths i 0 ≤ longest_block)
  short i m = used e.waiting e.lengths waits.0 i m few

  pub tidy : Tidy e.waiting e.lengths e.blocks
  tidy =
      record {
        eight = long.lengths;
        bytes = long.blocks;
        few = few;
        short = λ i m. (short i m).1;
        unused = rests e.waiting e.lengths waits.0;
        clear = clear_at e.lengths e.blocks waits.1;
      }

  pub tidy-held : Tidy held_size e.held_lengths e.held_blocks
  unfolding held_sound all_of
  tidy-held =
      let l = e.held_lengths in
      let s : short_in l ≡ true = (both _ _ (both (eqb (length l) held_size) _ holds.0).1).0 in
      record {
        eight = long.held_lengths;
        bytes = long.held_blocks;
        few = omega arith;
        short = λ i m. leb-true (get_or l i 0) longest_block (all-at (λ k. leb (get_or l k 0) longest_block) held_size i m s);
        unused = λ i m n. absurd (omega arith);
        clear = clear_at l e.held_blocks holds.1;
      }

  sized-tab : (w : ℕ) → w ≤ e.waiting → sized (tab w (place_block e.lengths e.blocks)) ≡ true
  unfolding tab sized
  sized-tab zero h = refl
  sized-tab (suc w) h =
      let b = place_block e.lengths e.blocks w in
      let n = length-block e.lengths e.blocks e.waiting tidy w h in
      let u = short w h in
      sized-append (tab w (place_block e.lengths e.blocks)) (b ∷ []) (sized-tab w (omega arith))
      (joined (in_range_lem 1 longest_block (length b) (rw n u.0) (rw n u.1)) refl)

  -- the lengths of the held blocks are those of the struct
  pub lengths-held : lengths_of (view e).held ≡ e.held_lengths
  unfolding view
  lengths-held =
      lengths-tab e.held_lengths e.held_blocks held_size tidy-held held_size (omega arith)
      ∙ take_all held_size e.held_lengths (omega (arith, long.held_lengths))

  -- the endpoint that a sound struct holds is sound
  pub view-sound : abstract.sound (view e) ≡ true
  unfolding abstract.sound view
  view-sound =
      rw (length-tab e.waiting (place_block e.lengths e.blocks), lengths-held)
      (joined numbers_ok_lem (joined (sized-tab e.waiting (omega arith)) holds.0))

  pub facts : Sound (view e)
  facts = sound_so (view e) view-sound
