-- Where a line ends, and pieces of a line.
use Prim.Native.Nat.{ℕ, ◌+◌, ◌-◌, min}
use mathlib.Core.Path.{◌≡◌, refl, sym, ap, ◌∙◌}
use mathlib.Core.Logic.{◌≢◌}
use mathlib.Core.List.{List, [], ◌∷◌}
use lib.ListN.{length, take, length-take}
use lib.Seq.{drop-drop}
use borrow.Rule.Slice.PartMut.{put_mid}
use native.Mathlib.Omega.{arith}
use Rattle.octets.proofs.Test.{eq_yes, eq_no}
use Rattle.std.proofs.lemmas.List.{take_min}
use Rattle.octets.specs.Octets.{put}
use Rattle.line_split.specs.Lines.{line_feed, line_length, Kept}

-- a line feed is at hand, or another character
pub at_feed : (c : ℕ) (s : List ℕ) → c ≡ line_feed → line_length (c ∷ s) ≡ 0
unfolding line_length
at_feed c s e = eq_yes c line_feed _ _ e

pub past_other : (c : ℕ) (s : List ℕ) → c ≢ line_feed → line_length (c ∷ s) ≡ line_length s + 1
unfolding line_length
past_other c s e = eq_no c line_feed _ _ e ∙ omega arith

pub of_none : line_length [] ≡ 0
unfolding line_length
of_none = refl

-- a piece, as much of it as there is room for
fits : (line piece : List ℕ) (n m : ℕ) → m ≡ min (length piece) (length line - n) → take m piece ≡ take (length line - n) piece
fits line piece n m e =
    let c : m ≡ min (length line - n) (length piece) = omega arith in
    rw c (take_min (length line - n) piece)

pub keeps : (line piece x : List ℕ) (n m : ℕ) → m ≡ min (length piece) (length line - n) → x ≡ take m piece → Kept line n piece (put_mid n (n + m - n) line x) (n + m)
unfolding put
keeps line piece x n m e f =
    let d : n + m - n ≡ m = omega arith in
    let l : length (take (length line - n) piece) ≡ m = length-take (length line - n) piece ∙ omega arith in
    record { count = ap (λ (k : ℕ). n + k) (sym l); buffer = rw (d, f, fits line piece n m e, l, drop-drop m n line) refl }
