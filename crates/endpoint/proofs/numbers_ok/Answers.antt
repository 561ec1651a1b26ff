use Rattle.std.proofs.Common.{ℕ, ◌≡◌, ◌≢◌, refl, arith}
use mathlib.Core.Bool.{Bool, true, false, ◌&&◌, ◌||◌, and-true, and-false}
use lib.Dec.{leb, ltb, eqb}
use borrow.Author.Tests.{lt-ltb, le-ltb, lt-leb, le-leb, ne_eqb}
use Rattle.octets.specs.Test.{when, in_range}
use Rattle.octets.proofs.Test.{by_eq}
use Rattle.protocol.specs.Endpoint.{all_of, numbers_sound}
use Rattle.endpoint.proofs.Sounds.{by_lt}
use Rattle.endpoint.proofs.numbers_ok.Goals as goal

-- what is asked only where a test fails
or-when : (t x : Bool) → (t || x) ≡ when t true x
unfolding when
or-when true x = refl
or-when false x = refl

-- what is asked only up to a number
up_to : (a b : ℕ) (x : Bool) → (ltb a b || x) ≡ when (leb b a) x true
unfolding when
up_to a b x = by_lt a b (λ m. rw (lt-ltb a b m, lt-leb b a m) refl) (λ m. rw (le-ltb a b m, le-leb b a m) refl)

-- outside open, where w = 0 says that w ≤ 8 and w ≤ t
outside : (st l d t e w : ℕ) → st ≢ 4
    → (leb st 5 && ((ltb 1 st || eqb d 0) && ((eqb st 0 || leb 1 l) && ((ltb st 3 || leb 1 d) && (eqb t 0 && (eqb w 0 && eqb e 0))))))
    ≡ all_of (numbers_sound st l d t e w)
unfolding numbers_sound in_range all_of when
outside st l d t e w h =
    rw (up_to 1 st (eqb d 0), or-when (eqb st 0) (leb 1 l), up_to st 3 (leb 1 d), ne_eqb st 4 h, le-leb 0 st (omega arith))
    (by_eq w 0 (λ z. rw (z, le-leb 0 t (omega arith)) (simp and-true)) (λ z. rw (ne_eqb w 0 z) (simp and-false)))

pub returns-then-n-eq-ESTABLISHED : goal.returns-then-n-eq-ESTABLISHED
unfolding numbers_sound in_range all_of when
returns-then-n-eq-ESTABLISHED c = rw (c.if-n-eq-ESTABLISHED.true, c.from-waiting.ensures, and-true (leb 1 c.args.n.remote)) refl

pub returns : goal.returns
returns c =
    let n = c.args.n in
    rw c.from-waiting.ensures (outside n.state n.local n.remote n.accepted n.delivered n.waiting c.if-n-eq-ESTABLISHED.false)
