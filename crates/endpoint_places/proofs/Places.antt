-- Places of octets after a plan: what moves to the front, and that there is room.
use Prim.Native.Nat.{ℕ, ◌+◌, ◌*◌, ◌≤◌}
use mathlib.Core.Path.{◌≡◌, refl, sym, ap, ◌∙◌}
use mathlib.Core.List.{List, [], ◌∷◌, ◌++◌, append-nil}
use native.Mathlib.Nat.{mul-le-mul_right}
use native.Mathlib.Omega.{arith}
use lib.ListN.{length, drop, replicate, length-append, length-drop, length-replicate, drop_of_length-le}
use lib.Seq.{paste}
use borrow.Rule.Slice.PartMut.{put_mid}
use Rattle.std.proofs.lemmas.Slice.{put_mid-paste}
use Rattle.std.proofs.lemmas.List.Edits.{paste_all, paste-paste}
use Rattle.octets.proofs.Octets.{length-put}
use Rattle.octets.specs.Sizes.{longest_block, queue_size}
use Rattle.frame.specs.Frame.{Block}
use Rattle.step_plan.specs.declared.Places.{Places}
use Rattle.step_plan.specs.declared.Places.TheVariants.{Keep, Join, Release, Clear}
use Rattle.endpoint.specs.View.{places_size}
use Rattle.endpoint_places.specs.Internal.{places_after, PlaceFor, InEight}

-- what moves to the front, and zeros after it
pub moved : (f k : ℕ) (d : List ℕ) {x z : List ℕ} {m n : ℕ} → length d ≡ f + k → x ≡ paste d 0 (drop f d) k → z ≡ replicate n 0 → m ≡ f → n ≡ f
    → put_mid k m x z ≡ drop f d ++ replicate f 0
moved f k d {x} {z} {m} {n} l ex ez em en =
    let t : List ℕ = replicate f 0 in
    let s : List ℕ = drop f d in
    let ls : k ≡ length s = omega (arith, length-drop f d) in
    let lt : f ≡ length t = omega (arith, length-replicate {A = ℕ} f 0) in
    let lr : k + f ≡ length (s ++ t) = omega (arith, length-append s t) in
    let first : 0 + k ≡ k = omega arith in
    let whole : drop (0 + (k + f)) d ≡ [] = drop_of_length-le d (omega arith) in
    put_mid-paste k m x z t f (ez ∙ ap (λ (i : ℕ). replicate i 0) en) (sym em) lt
    ∙ ap (λ (y : List ℕ). paste y k t f) ex
    ∙ ap (λ (i : ℕ). paste (paste d 0 s k) i t f) (sym first)
    ∙ paste-paste d 0 s t k f ls lt (omega arith)
    ∙ paste_all d 0 (s ++ t) (k + f) lr
    ∙ ap (λ (y : List ℕ). (s ++ t) ++ y) whole
    ∙ append-nil (s ++ t)

-- as many octets as before
pub length-after : (k : Places) (width : ℕ) (s d : List ℕ) → PlaceFor k width s d → length (places_after k width s d) ≡ length d
unfolding places_after
length-after Keep width s d h = refl
length-after (Join i) width s d h = length-put d s (i * width) h
length-after (Release k) width s d h = omega (arith, length-append (drop (k * width) d) (replicate (k * width) 0), length-drop (k * width) d, length-replicate {A = ℕ} (k * width) 0, mul-le-mul_right width h.0, h.1.1)
length-after Clear width s d h = length-replicate (length d) 0

-- eight places of lengths and of blocks have room for what a plan does
module _ (b : Block) (short : length b ≤ longest_block) where
  pub for-lengths : (k : Places) → InEight k → (d : List ℕ) → length d ≡ queue_size → PlaceFor k 1 (length b ∷ []) d
  for-lengths Keep r d e = tt
  for-lengths (Join i) r d e = omega (arith, r)
  for-lengths (Release k) r d e = omega (arith, r)
  for-lengths Clear r d e = tt

  pub for-blocks : (k : Places) → InEight k → (d : List ℕ) → length d ≡ places_size → PlaceFor k longest_block b d
  for-blocks Keep r d e = tt
  for-blocks (Join i) r d e = omega (arith, r)
  for-blocks (Release k) r d e = omega (arith, r)
  for-blocks Clear r d e = tt
