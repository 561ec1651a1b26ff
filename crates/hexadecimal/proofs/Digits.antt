-- Laws of digits and lines: what each stands for, one octet more, and the way back.
use Prim.Native.Nat.{ℕ, zero, suc, ◌+◌, ◌-◌, ◌*◌, ◌/◌, ◌%◌, ◌<◌, ◌≤◌}
use mathlib.Core.Path.{◌≡◌, refl, sym, ap, ap₂, ◌∙◌}
use mathlib.Core.Logic.{⊎_elim}
use mathlib.Core.Bool.{Bool, true, false, ◌&&◌, ◌||◌, and-true, and_assoc, or-true}
use mathlib.Core.List.{List, [], ◌∷◌, ◌++◌}
use native.Mathlib.Nat.{div-add-mod'}
use native.Mathlib.Omega.{arith}
use native.Mathlib.Numerals.{add-one}
use lib.Dec.{eqb, lit<}
use borrow.Author.Tests.{eqb-true}
use lib.Arith.{digits_div, digits_mod}
use lib.ListN.{length, take, drop, get_or}
use Rattle.std.proofs.Math.Nat.{mul-le-mul_left}
use lib.Seq.{get_or-take, get_or-drop}
use Rattle.std.specs.Int.{w16, to_le_bytes}
use Rattle.std.specs.List.{fold}
use Rattle.std.specs.Simd.{first_chunks}
use Rattle.octets.specs.Sizes.{longest_frame}
use Rattle.octets.specs.Test.{when, if_lt, in_range}
use Rattle.octets.specs.Octets.{Octets}
use Rattle.octets.proofs.Test.{if-lt, lt_yes, lt_no, both, either, within, in_range_lem, below_range, above_range}
use Rattle.hexadecimal.specs.Line.{digit, is_capital, is_digit, value, hex, unhex, small, normal, all, length_ok}

pub digit_low : (n : ℕ) → n < 10 → digit n ≡ 48 + n
unfolding digit
digit_low n h = lt_yes n 10 (48 + n) (87 + n) h

pub digit_high : (n : ℕ) → 10 ≤ n → digit n ≡ 87 + n
unfolding digit
digit_high n h = lt_no n 10 (48 + n) (87 + n) h

-- the digit by arithmetic on its value
pub digit_sum : (n : ℕ) → n < 16 → digit n ≡ 48 + n + 39 * ((n + 6) / 16)
unfolding digit
digit_sum n h = if-lt (λ (d : ℕ). d ≡ 48 + n + 39 * ((n + 6) / 16)) n 10 (λ l. omega arith) (λ l. omega arith)

-- two digits in one number
pub two_digits : (h l : ℕ) {r : ℕ} → h < 16 → l < 16 → r ≡ digit l * 256 + digit h → to_le_bytes w16 r ≡ digit h ∷ digit l ∷ []
two_digits h l {r} a b e =
    let low : digit h < 256 = omega (arith, digit_sum h a) in
    let high : digit l < 256 = omega (arith, digit_sum l b) in
    let first : r % 256 ≡ digit h = rw e (digits_mod (digit l) low) in
    let second : r / 256 % 256 ≡ digit l = omega arith in
    ap₂ (λ (x y : ℕ). x ∷ y ∷ []) first second

pub value_figure : (c : ℕ) → c < 65 → value c ≡ c - 48
unfolding value
value_figure c h = lt_yes c 65 (c - 48) (if_lt c 97 (c - 55) (c - 87)) h

pub value_capital : (c : ℕ) → 65 ≤ c → c < 97 → value c ≡ c - 55
unfolding value
value_capital c h g = lt_no c 65 (c - 48) (if_lt c 97 (c - 55) (c - 87)) h ∙ lt_yes c 97 (c - 55) (c - 87) g

pub value-small : (c : ℕ) → 97 ≤ c → value c ≡ c - 87
unfolding value
value-small c h = lt_no c 65 (c - 48) (if_lt c 97 (c - 55) (c - 87)) (omega arith) ∙ lt_no c 97 (c - 55) (c - 87) h

-- capitals, and all other characters
pub capital_range : (c : ℕ) → is_capital c ≡ true → (65 ≤ c) × (c ≤ 70)
unfolding is_capital
capital_range c t = within 65 70 c t

pub before_capitals : (c : ℕ) → c < 65 → is_capital c ≡ false
unfolding is_capital
before_capitals c h = below_range 65 70 c h

pub after_capitals : (c : ℕ) → 70 < c → is_capital c ≡ false
unfolding is_capital
after_capitals c h = above_range 65 70 c h

-- a digit is in one of three ranges
data Digit (c : ℕ) : Type 0 where
  figure : 48 ≤ c → c ≤ 57 → Digit c
  capital : is_capital c ≡ true → Digit c
  letter : 97 ≤ c → c ≤ 102 → Digit c

is_digit_lem : (c : ℕ) → is_digit c ≡ true → Digit c
unfolding is_digit
is_digit_lem c h =
    ⊎_elim
    (λ (t : in_range 48 57 c ≡ true). figure (within 48 57 c t).0 (within 48 57 c t).1)
    (λ (u : (is_capital c || in_range 97 102 c) ≡ true).
    ⊎_elim
    (λ (t : is_capital c ≡ true). capital t)
    (λ (t : in_range 97 102 c ≡ true). letter (within 97 102 c t).0 (within 97 102 c t).1)
    (either (is_capital c) (in_range 97 102 c) u))
    (either (in_range 48 57 c) (is_capital c || in_range 97 102 c) h)

pub figure_digit : (c : ℕ) → 48 ≤ c → c ≤ 57 → is_digit c ≡ true
unfolding is_digit
figure_digit c h g = rw (in_range_lem 48 57 c h g) refl

pub capital_digit : (c : ℕ) → is_capital c ≡ true → is_digit c ≡ true
unfolding is_digit
capital_digit c h = rw h (or-true (in_range 48 57 c))

pub letter_digit : (c : ℕ) → 97 ≤ c → c ≤ 102 → is_digit c ≡ true
unfolding is_digit
letter_digit c h g = rw (in_range_lem 97 102 c h g, or-true (is_capital c)) (or-true (in_range 48 57 c))

-- a number's digit is a digit and no capital, and stands for that number
pub record Shown (n c : ℕ) : Type 0 where
  pub is : is_digit c ≡ true
  pub plain : is_capital c ≡ false
  pub back : value c ≡ n

pub shown : (n : ℕ) → n < 16 → Shown n (digit n)
unfolding digit
shown n h =
    if-lt (Shown n) n 10
    (λ l. record {
      is = figure_digit (48 + n) (omega arith) (omega arith);
      plain = before_capitals (48 + n) (omega arith);
      back = value_figure (48 + n) (omega arith) ∙ omega arith;
    })
    (λ l. record {
      is = letter_digit (87 + n) (omega arith) (omega arith);
      plain = after_capitals (87 + n) (omega arith);
      back = value-small (87 + n) (omega arith) ∙ omega arith;
    })

-- A digit's number is below 16, and its digit is that digit, made small. It is what the code makes of the character's halves.
pub record Known (c v : ℕ) : Type 0 where
  pub below : v < 16
  pub back : digit v ≡ small c
  pub halves : c % 16 + 9 * (c / 64) ≡ v

pub known : (c : ℕ) → is_digit c ≡ true → Known c (value c)
unfolding small when
known c h = by (is_digit_lem c h)
  where
    by : Digit c → Known c (value c)
    by (figure a b) =
        rw (value_figure c (omega arith))
        (record {
          below = omega arith;
          back = digit_low (c - 48) (omega arith) ∙ rw (before_capitals c (omega arith)) (omega arith);
          halves = omega arith;
        })
    by (capital t) =
        let r = capital_range c t in
        let a : 65 ≤ c = r.0 in
        let b : c ≤ 70 = r.1 in
        rw (value_capital c a (omega arith))
        (record {
          below = omega arith;
          back = digit_high (c - 55) (omega arith) ∙ rw t (omega arith);
          halves = omega arith;
        })
    by (letter a b) =
        rw (value-small c (omega arith))
        (record {
          below = omega arith;
          back = digit_high (c - 87) (omega arith) ∙ rw (after_capitals c (omega arith)) (omega arith);
          halves = omega arith;
        })

-- a test of every character, which a fold joins
pub all_fold : (p : ℕ → Bool) (s : List ℕ) (a : Bool) → fold (λ (yes : Bool) (c : ℕ). yes && p c) a s ≡ (a && all p s)
unfolding all
all_fold p [] a = sym (and-true a)
all_fold p (c ∷ s) a = all_fold p s (a && p c) ∙ and_assoc a (p c) (all p s)

pub all-at : (p : ℕ → Bool) (s : List ℕ) (i : ℕ) → all p s ≡ true → i < length s → p (get_or s i 0) ≡ true
unfolding all
all-at p [] i t h = absurd (omega arith)
all-at p (c ∷ s) zero t h = (both (p c) (all p s) t).0
all-at p (c ∷ s) (suc i) t h = all-at p s i (both (p c) (all p s) t).1 (omega arith)

-- the lengths of digits and of octets
pub length-hex : (s : List ℕ) → length (hex s) ≡ 2 * length s
unfolding hex
length-hex [] = refl
length-hex (b ∷ s) = omega (arith, length-hex s)

pub length-unhex : (n : ℕ) (l : List ℕ) → length l ≡ 2 * n → length (unhex l) ≡ n
unfolding unhex
length-unhex zero [] h = refl
length-unhex zero (x ∷ l) h = absurd (omega arith)
length-unhex (suc n) [] h = absurd (omega arith)
length-unhex (suc n) (x ∷ []) h = absurd (omega arith)
length-unhex (suc n) (x ∷ y ∷ l) h = ap suc (length-unhex n l (omega arith))

-- the two digits of an octet, and the others
pair : (x y : ℕ) (l : List ℕ) → all is_digit (x ∷ y ∷ l) ≡ true → Known x (value x) × Known y (value y) × (all is_digit l ≡ true)
unfolding all
pair x y l t =
    let tx = both (is_digit x) (is_digit y && all is_digit l) t in
    let ty = both (is_digit y) (all is_digit l) tx.1 in
    (known x tx.0, known y ty.0, ty.1)

-- what digits stand for is octets
pub unhex_octets : (l : List ℕ) → all is_digit l ≡ true → Octets (unhex l)
unfolding unhex Octets
unhex_octets [] t i = lit< tt
unhex_octets (x ∷ []) t i = lit< tt
unhex_octets (x ∷ y ∷ l) t zero = let k = pair x y l t in omega (arith, k.0.below, k.1.below)
unhex_octets (x ∷ y ∷ l) t (suc i) = unhex_octets l (pair x y l t).2 i

-- one octet more
pub hex-more : (s : List ℕ) (i : ℕ) → i < length s
    → hex (take (i + 1) s) ≡ hex (take i s) ++ (digit (get_or s i 0 / 16) ∷ digit (get_or s i 0 % 16) ∷ [])
unfolding hex
hex-more s i h = rw (add-one i) (turn s i h)
  where
    turn : (t : List ℕ) (k : ℕ) → k < length t → hex (take (suc k) t) ≡ hex (take k t) ++ (digit (get_or t k 0 / 16) ∷ digit (get_or t k 0 % 16) ∷ [])
    turn [] k l = absurd (omega arith)
    turn (b ∷ t) zero l = refl
    turn (b ∷ t) (suc k) l = ap (λ (r : List ℕ). digit (b / 16) ∷ digit (b % 16) ∷ r) (turn t k (omega arith))

pub unhex-more : (l : List ℕ) (i : ℕ) → 2 * i + 1 < length l
    → unhex (take (2 * (i + 1)) l) ≡ unhex (take (2 * i) l) ++ ((value (get_or l (2 * i) 0) * 16 + value (get_or l (2 * i + 1) 0)) ∷ [])
unfolding unhex
unhex-more l i h =
    let e : 2 * (i + 1) ≡ suc (suc (2 * i)) = omega arith in
    let f : 2 * i + 1 ≡ suc (2 * i) = omega arith in
    rw (e, f) (turn l i (omega arith))
  where
    turn : (t : List ℕ) (k : ℕ) → suc (2 * k) < length t
        → unhex (take (suc (suc (2 * k))) t) ≡ unhex (take (2 * k) t) ++ ((value (get_or t (2 * k) 0) * 16 + value (get_or t (suc (2 * k)) 0)) ∷ [])
    turn [] k g = absurd (omega arith)
    turn (x ∷ []) k g = absurd (omega arith)
    turn (x ∷ y ∷ t) zero g = refl
    turn (x ∷ y ∷ t) (suc k) g =
        let e : 2 * suc k ≡ suc (suc (2 * k)) = omega arith in
        rw e (ap (λ (r : List ℕ). (value x * 16 + value y) ∷ r) (turn t k (omega arith)))

-- a character of a pair
pub pair_at : (n k : ℕ) (l : List ℕ) (i j : ℕ) (d : List ℕ) → i < k → j < n → get_or (get_or (first_chunks n k l) i d) j 0 ≡ get_or l (n * i + j) 0
pair_at n zero l i j d h g = absurd (omega arith)
pair_at n (suc k) l zero j d h g =
    let e : n * zero + j ≡ j = omega arith in
    rw e (get_or-take n l j 0 g)
pair_at n (suc k) l (suc i) j d h g =
    let e : n + (n * i + j) ≡ n * suc i + j = omega arith in
    pair_at n k (drop n l) i j d (omega arith) g ∙ get_or-drop n l (n * i + j) 0 ∙ ap (λ (m : ℕ). get_or l m 0) e

pub pair_digit : (n k : ℕ) (l : List ℕ) (i j : ℕ) (d : List ℕ) → i < k → j < n → n * k ≤ length l → all is_digit l ≡ true
    → is_digit (get_or (get_or (first_chunks n k l) i d) j 0) ≡ true
pair_digit n k l i j d h g f t =
    let e : n * i + n ≤ n * k = omega (arith, mul-le-mul_left n (let m : suc i ≤ k = omega arith in m)) in
    ap is_digit (pair_at n k l i j d h g) ∙ all-at is_digit l (n * i + j) t (omega arith)

-- reading what was written
pub unhex-hex : (s : List ℕ) → Octets s → unhex (hex s) ≡ s
unfolding unhex hex Octets
unhex-hex [] o = refl
unhex-hex (b ∷ s) o =
    ap₂ (λ (x : ℕ) (l : List ℕ). x ∷ l)
    (rw ((shown (b / 16) (omega (arith, o 0))).back, (shown (b % 16) (omega arith)).back) (div-add-mod' b 16))
    (unhex-hex s (λ i. o (suc i)))

pub hex_digits : (s : List ℕ) → Octets s → all is_digit (hex s) ≡ true
unfolding hex all Octets
hex_digits [] o = refl
hex_digits (b ∷ s) o = rw ((shown (b / 16) (omega (arith, o 0))).is, (shown (b % 16) (omega arith)).is) (hex_digits s (λ i. o (suc i)))

-- writing what was read
pub hex-unhex : (n : ℕ) (l : List ℕ) → length l ≡ 2 * n → all is_digit l ≡ true → hex (unhex l) ≡ normal l
unfolding hex unhex
hex-unhex zero [] h t = refl
hex-unhex zero (x ∷ l) h t = absurd (omega arith)
hex-unhex (suc n) [] h t = absurd (omega arith)
hex-unhex (suc n) (x ∷ []) h t = absurd (omega arith)
hex-unhex (suc n) (x ∷ y ∷ l) h t =
    let k = pair x y l t in
    rw (digits_div (value x) k.1.below, digits_mod (value x) k.1.below, k.0.back, k.1.back)
    (ap (λ (r : List ℕ). small x ∷ small y ∷ r) (hex-unhex n l (omega arith) k.2))

-- what question 1 asks
pub record Even (n : ℕ) : Type 0 where
  pub least : 2 ≤ n
  pub most : n ≤ 2 * longest_frame
  pub even : n % 2 ≡ 0

pub right_length : (n : ℕ) → length_ok n ≡ true → Even n
unfolding length_ok
right_length n h =
    let t = both (in_range 2 (2 * longest_frame) n) (eqb (n % 2) 0) h in
    let r = within 2 (2 * longest_frame) n t.0 in
    record { least = r.0; most = r.1; even = eqb-true (n % 2) 0 t.1 }
