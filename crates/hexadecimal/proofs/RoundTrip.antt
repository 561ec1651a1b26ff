-- A written line reads as its octets; a readable line, written again, is its normal form; the edges.
use Prim.Native.Nat.{ℕ, ◌*◌, ◌/◌, ◌%◌, ◌≤◌}
use mathlib.Core.Path.{◌≡◌, refl, sym, ap, ◌∙◌}
use mathlib.Core.Bool.{true}
use mathlib.Core.List.{[], ◌∷◌}
use native.Mathlib.Omega.{arith}
use borrow.Author.Tests.{eq-eqb}
use lib.ListN.{length}
use Rattle.octets.specs.Sizes.{longest_frame}
use Rattle.octets.specs.Test.{if_lt, in_range, first, when, outcome, ok}
use Rattle.octets.proofs.Test.{accepted, all_yes, in_range_lem}
use Rattle.hexadecimal.specs.Line.{is_capital, is_digit, value, hex, unhex, all, length_ok, line_questions, read_line}
use Rattle.hexadecimal.specs.Claim.{WrittenReads, ReadWrites, LengthEdges, DigitEdges, NeighboursRefused}
use Rattle.hexadecimal.proofs.Digits.{right_length, length-hex, hex_digits, unhex-hex, hex-unhex}

even_length : (n : ℕ) → 1 ≤ n → n ≤ longest_frame → length_ok (2 * n) ≡ true
unfolding length_ok
even_length n h g = rw (in_range_lem 2 (2 * longest_frame) (2 * n) (omega arith) (omega arith)) (eq-eqb (2 * n % 2) 0 (omega arith))

-- a written line reads as its octets
pub written_reads : WrittenReads
unfolding read_line first when outcome
written_reads s o h g =
    let e : length_ok (length (hex s)) ≡ true = ap length_ok (length-hex s) ∙ even_length (length s) h g in
    simp (e, hex_digits s o) (ap ok (unhex-hex s o))

-- a readable line, written again, is its normal form
pub read_writes : ReadWrites
unfolding read_line
read_writes l s h =
    let a = accepted (first (line_questions l)) (unhex l) h in
    let q1 = all_yes 1 (length_ok (length l)) ((2, all is_digit l) ∷ []) a.0 tt in
    let q2 = all_yes 2 (all is_digit l) [] q1.1 tt in
    ap hex (sym a.1) ∙ hex-unhex (length l / 2) l (omega (arith, (right_length (length l) q1.0).even)) q2.0

-- the edges
pub edges : LengthEdges
unfolding first when length_ok in_range all is_digit is_capital
edges = record { longest = refl; longer = refl; one = refl; none = refl; no_digits = refl; neither = refl }

pub ranges : DigitEdges
unfolding read_line first when outcome length_ok in_range all is_digit is_capital unhex value if_lt
ranges = record { figures = refl; capitals = refl; letters = refl; mixed = refl }

pub neighbours : NeighboursRefused
unfolding read_line first when outcome length_ok in_range all is_digit is_capital
neighbours = ((refl, refl), ((refl, refl), ((refl, refl), ((refl, refl), ((refl, refl), (refl, refl))))))
