use mathlib.Core.Path.{refl, ◌∙◌}
use Rattle.frame.specs.Read.{numbers_ok}
use Rattle.frame.specs.declared.Kind.TheVariants.{Crao, Rej, Drack, Data}
use Rattle.frame.proofs.Classes.{same_octet}
use Rattle.frame_read.proofs.numbers_ok.Goals as goal

pub returns : goal.returns
unfolding numbers_ok
returns c =
    let k = c.args.kind in
    rw (c.eq.ensures ∙ same_octet k Rej, c.eq-2.ensures ∙ same_octet k Drack, c.eq-3.ensures ∙ same_octet k Crao, c.eq-4.ensures ∙ same_octet k Data) refl
