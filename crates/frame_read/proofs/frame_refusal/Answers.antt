use mathlib.Core.Bool.{true, false}
use mathlib.Core.List.{[], ◌∷◌}
use Rattle.octets.specs.Test.{first, when, if_eq}
use Rattle.octets.specs.Octets.{size}
use Rattle.frame.specs.Layout.{has_block, layout, numbers_size}
use Rattle.frame.specs.Read.{count_of, fixed_ok}
use Rattle.frame.specs.Answer.{kind_number}
use Rattle.frame.proofs.Shape.{numbers-size, control_of}
use Rattle.frame_read.proofs.frame_refusal.Goals as goal

pub returns-in-Data : goal.returns-in-Data
unfolding first when fixed_ok has_block count_of numbers_size layout size if_eq
returns-in-Data c = rw c.in-Data.is c.block_refusal.ensures

pub returns-in-Ack : goal.returns-in-Ack
unfolding first when fixed_ok has_block count_of numbers_size layout size if_eq
returns-in-Ack c = rw c.in-Ack.is c.plain_refusal.ensures

pub returns-in_default : goal.returns-in_default
unfolding first when fixed_ok size
returns-in_default c =
    let k = kind_number c.args.kind in
    let sh = (control_of c.args.kind c.in_default.not-Data c.in_default.not-Ack).1 in
    rw (sh.has_block, numbers-size k c.args.rest.now (4 ∷ 4 ∷ []) false true sh) c.plain_refusal-in_default.ensures
