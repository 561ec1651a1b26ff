-- The lines of a text whose capitals are made small: the normal forms of its lines.
use Prim.Native.Nat.{ℕ}
use mathlib.Core.Path.{◌≡◌, refl, sym, ap, ap₂, ◌∙◌}
use mathlib.Core.Logic.{◌≢◌}
use mathlib.Core.List.{List, [], ◌∷◌, ◌++◌, map, map-append}
use native.Mathlib.Omega.{arith}
use Rattle.octets.proofs.Test.{split, by_eq}
use Rattle.hexadecimal.specs.Line.{is_capital, small, normal}
use Rattle.hexadecimal.proofs.Digits.{capital_range}
use Rattle.line_split.specs.Lines.{line_feed}
use Rattle.line_split.specs.Split.{ended, unfinished, last, lines_of}
use Rattle.line_split.proofs.Split.{ended-feed, ended-other, begun-feed, begun-other}

-- a line feed is no capital and becomes no other character, and no other becomes a line feed
feed : (c : ℕ) → c ≡ line_feed → small c ≡ line_feed
unfolding small
feed c e = split (λ (x : ℕ). x ≡ line_feed) (is_capital c) (λ t. absurd (omega (arith, e, (capital_range c t).0))) (λ t. e)

other : (c : ℕ) → c ≢ line_feed → small c ≢ line_feed
unfolding small
other c e = split (λ (x : ℕ). x ≢ line_feed) (is_capital c) (λ t z. omega (arith, z, (capital_range c t).0)) (λ t. e)

ended-normal : (part s : List ℕ) → ended (normal part) (normal s) ≡ map normal (ended part s)
unfolding ended
ended-normal part [] = refl
ended-normal part (c ∷ s) =
    by_eq c line_feed
    (λ e. rw (ended-feed (normal part) (small c) (normal s) (feed c e), ended-feed part c s e) (ap (λ (x : List (List ℕ)). normal part ∷ x) (ended-normal [] s)))
    (λ e. rw (ended-other (normal part) (small c) (normal s) (other c e), ended-other part c s e, sym (map-append small part (c ∷ [])))
    (ended-normal (part ++ (c ∷ [])) s))

begun-normal : (part s : List ℕ) → unfinished (normal part) (normal s) ≡ normal (unfinished part s)
unfolding unfinished
begun-normal part [] = refl
begun-normal part (c ∷ s) =
    by_eq c line_feed
    (λ e. rw (begun-feed (normal part) (small c) (normal s) (feed c e), begun-feed part c s e) (begun-normal [] s))
    (λ e. rw (begun-other (normal part) (small c) (normal s) (other c e), begun-other part c s e, sym (map-append small part (c ∷ [])))
    (begun-normal (part ++ (c ∷ [])) s))

last-normal : (s : List ℕ) → last (normal s) ≡ map normal (last s)
unfolding last
last-normal [] = refl
last-normal (c ∷ s) = refl

pub lines_normal : (s : List ℕ) → lines_of (normal s) ≡ map normal (lines_of s)
unfolding lines_of
lines_normal s =
    rw (map-append normal (ended [] s) (last (unfinished [] s)))
    (ap₂ ◌++◌ (ended-normal [] s) (ap last (begun-normal [] s) ∙ last-normal (unfinished [] s)))
