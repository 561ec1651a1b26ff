use Prim.Native.Nat.{ℕ}
use mathlib.Core.Path.{◌≡◌, refl, sym, ap, ◌∙◌}
use mathlib.Core.Bool.{Bool}
use mathlib.Core.List.{List}
use Rattle.octets.specs.Test.{when, ok, mapped}
use Rattle.octets.specs.Octets.{field}
use Rattle.frame.specs.Read.{number_at, numbers_ok, block_at, readable, frame_at}
use Rattle.frame.specs.Answer.{kind_number, frame_with}
use Rattle.frame.specs.declared.Kind.{Kind}
use Rattle.frame.proofs.Classes.{kind_is_frame}
use Rattle.frame.proofs.Shape.{Numbered, numbered}
use native.Mathlib.Omega.{arith}
use Rattle.frame_read.proofs.frame_of.Goals as goal

module _ (kind : Kind) (r : List ℕ) where
  abbrev k : ℕ
  k = kind_number kind

  -- what the octets say of the frame
  says : Numbered r k
  says = numbered r k (kind_is_frame kind)

  -- the numbers that are loaded are those of the frame, and so question 7 is its own
  module _ {s q n : ℕ} (hs : s ≡ field 4 0 r) (hq : q ≡ field 4 4 r) (hn : n ≡ number_at 2 k r) where
    seven : {b : Bool} → b ≡ numbers_ok k s q n → b ≡ readable (frame_at k r)
    unfolding readable frame_at
    seven h = h ∙ (λ i. numbers_ok k ((hs ∙ sym says.sender) i) ((hq ∙ sym says.quoted) i) (hn i))

    whole : frame_with k s q n (block_at k r) ≡ frame_at k r
    whole = (λ i. frame_with k ((hs ∙ sym says.sender) i) ((hq ∙ sym says.quoted) i) (hn i) (block_at k r)) ∙ sym says.whole

pub load32-sender-requires : goal.load32-sender-requires
load32-sender-requires c = omega (arith, (says c.args.kind c.args.rest.now).two, c.requires.0)

pub load32-quoted-requires : goal.load32-quoted-requires
load32-quoted-requires c = omega (arith, (says c.args.kind c.args.rest.now).two, c.requires.0)

pub returns-then-not-numbers_ok : goal.returns-then-not-numbers_ok
unfolding when mapped
returns-then-not-numbers_ok c =
    rw (sym (seven c.args.kind c.args.rest.now c.load32-sender.ensures c.load32-quoted.ensures c.requires.1 c.numbers_ok.ensures) ∙ c.if-not-numbers_ok.true) refl

pub returns : goal.returns
unfolding when mapped
returns c =
    rw (sym (seven c.args.kind c.args.rest.now c.load32-sender.ensures c.load32-quoted.ensures c.requires.1 c.numbers_ok.ensures) ∙ c.if-not-numbers_ok.false)
    (ap ok (whole c.args.kind c.args.rest.now c.load32-sender.ensures c.load32-quoted.ensures c.requires.1))
