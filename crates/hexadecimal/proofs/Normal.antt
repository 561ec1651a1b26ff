-- The normal form of a line: what is written has it, which other lines do, and that a line reads as its normal form does.
use Prim.Native.Nat.{ℕ, suc, ◌+◌, ◌/◌, ◌%◌, ◌≤◌}
use mathlib.Core.Path.{◌≡◌, refl, sym, ap, ap₂, ◌∙◌}
use mathlib.Core.Bool.{true, ◌&&◌, not}
use mathlib.Core.List.{List, [], ◌∷◌}
use native.Mathlib.Omega.{arith}
use borrow.Author.Tests.{not-true}
use lib.ListN.{length-map}
use Rattle.octets.specs.Test.{when}
use Rattle.octets.specs.Octets.{Octets}
use Rattle.octets.proofs.Test.{split, both, joined}
use Rattle.hexadecimal.specs.Line.{is_capital, is_digit, value, hex, unhex, small, normal, all, no_capitals, line_questions, read_line}
use Rattle.hexadecimal.specs.Claim.{WrittenPlain, PlainNormal, NormalTwice, ReadAlike}
use Rattle.hexadecimal.proofs.Digits.{value_capital, value-small, capital_range, after_capitals, capital_digit, letter_digit, shown}

-- what is written has no capitals
pub written_plain : WrittenPlain
unfolding hex all Octets
written_plain [] o = refl
written_plain (b ∷ s) o = rw ((shown (b / 16) (omega (arith, o 0))).plain, (shown (b % 16) (omega arith)).plain) (written_plain s (λ i. o (suc i)))

-- a line without capitals is its own normal form
pub plain_normal : PlainNormal
unfolding all small when
plain_normal [] h = refl
plain_normal (c ∷ l) h =
    let t = both (not (is_capital c)) (no_capitals l) h in
    rw (not-true (is_capital c) t.0) (ap (λ (k : List ℕ). c ∷ k) (plain_normal l t.1))

-- a normal form has none
small_plain : (c : ℕ) → not (is_capital (small c)) ≡ true
unfolding small
small_plain c =
    split (λ (x : ℕ). not (is_capital x) ≡ true) (is_capital c)
    (λ t. ap not (after_capitals (c + 32) (omega (arith, (capital_range c t).0))))
    (λ t. ap not t)

pub normal_plain : (l : List ℕ) → no_capitals (normal l) ≡ true
unfolding all
normal_plain [] = refl
normal_plain (c ∷ l) = joined (small_plain c) (normal_plain l)

-- so the normal form of a normal form is itself
pub normal_twice : NormalTwice
normal_twice l = plain_normal (normal l) (normal_plain l)

-- a character is asked, and counts, as the same letter made small
digit_either : (c : ℕ) → is_digit (small c) ≡ is_digit c
unfolding small
digit_either c =
    split (λ (x : ℕ). is_digit x ≡ is_digit c) (is_capital c)
    (λ t. let r = capital_range c t in letter_digit (c + 32) (omega (arith, r.0)) (omega (arith, r.1)) ∙ sym (capital_digit c t))
    (λ t. refl)

value_either : (c : ℕ) → value (small c) ≡ value c
unfolding small
value_either c =
    split (λ (x : ℕ). value x ≡ value c) (is_capital c)
    (λ t.
    let r = capital_range c t in
    let e : 65 ≤ c = r.0 in
    let f : c ≤ 70 = r.1 in
    value-small (c + 32) (omega arith) ∙ (omega arith) ∙ sym (value_capital c e (omega arith)))
    (λ t. refl)

all_either : (l : List ℕ) → all is_digit (normal l) ≡ all is_digit l
unfolding all
all_either [] = refl
all_either (c ∷ l) = ap₂ ◌&&◌ (digit_either c) (all_either l)

-- questions 1 and 2 are answered alike
pub asked_alike : (l : List ℕ) → line_questions (normal l) ≡ line_questions l
asked_alike l = rw (length-map l small, all_either l) refl

-- and so are the octets
pub unhex-normal : (l : List ℕ) → unhex (normal l) ≡ unhex l
unfolding unhex
unhex-normal [] = refl
unhex-normal (x ∷ []) = refl
unhex-normal (x ∷ y ∷ l) = rw (value_either x, value_either y, unhex-normal l) refl

pub read_normal : (l : List ℕ) → read_line (normal l) ≡ read_line l
unfolding read_line
read_normal l = rw (asked_alike l, unhex-normal l) refl

-- lines with one normal form read as the same octets, or are refused by the same number
pub read_alike : ReadAlike
read_alike k l e = sym (read_normal k) ∙ ap read_line e ∙ read_normal l
