use Rattle.std.proofs.Common.{refl, sym, ◌∙◌}
use Rattle.endpoint.specs.Sound.{sound}
use Rattle.endpoint.specs.Internal.{whole}
use Rattle.endpoint.proofs.Sounds.{places_decide}
use Rattle.endpoint.proofs.Parts.is_sound.Goals as goal

pub returns-then-not-numbers_ok : goal.returns-then-not-numbers_ok
unfolding sound
returns-then-not-numbers_ok c = rw (sym c.numbers_ok.ensures ∙ c.if-not-numbers_ok.true) refl

pub returns : goal.returns
returns c =
    places_decide (whole c.args.self) (sym c.numbers_ok.ensures ∙ c.if-not-numbers_ok.false) (rw c.from-waiting.ensures at c.places_ok.ensures) c.held_ok.ensures
