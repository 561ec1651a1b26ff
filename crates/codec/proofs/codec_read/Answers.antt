use mathlib.Core.Path.{refl, sym, ap}
use lib.ListN.{length}
use Rattle.octets.specs.Test.{number_of, mapped}
use Rattle.frame.specs.Read.{cut_block}
use Rattle.frame.specs.Answer.{meant}
use Rattle.codec.specs.Calls.{shown}
use Rattle.codec.proofs.Blocks.{tells, tells-nothing}
use Rattle.codec.proofs.codec_read.Goals as goal

pub returns-in-Ok-Frame-clause-answer : goal.returns-in-Ok-Frame-clause-answer
unfolding meant mapped number_of
returns-in-Ok-Frame-clause-answer c = rw (sym (rw (c.in-Ok-Frame.is, c.in-Ok-Frame.field-0-is) at c.read_known.ensures)) refl

pub returns-in-Ok-Frame-clause-numbers : goal.returns-in-Ok-Frame-clause-numbers
unfolding meant mapped shown
returns-in-Ok-Frame-clause-numbers c = rw (sym (rw (c.in-Ok-Frame.is, c.in-Ok-Frame.field-0-is) at c.read_known.ensures), c.number.ensures) refl

pub returns-in-Ok-Frame-clause-block : goal.returns-in-Ok-Frame-clause-block
unfolding meant mapped
returns-in-Ok-Frame-clause-block c =
    tells c.args.s.now c.args.known c.args.block.now (sym (rw (c.in-Ok-Frame.is, c.in-Ok-Frame.field-0-is) at c.read_known.ensures)) (ap length c.cut_block-end.ensures)

pub returns-in-Ok-Request-clause-answer : goal.returns-in-Ok-Request-clause-answer
unfolding meant mapped number_of
returns-in-Ok-Request-clause-answer c = rw (sym (rw (c.in-Ok-Request.is, c.in-Ok-Request.field-0-is) at c.read_known.ensures)) refl

pub returns-in-Ok-Request-clause-numbers : goal.returns-in-Ok-Request-clause-numbers
unfolding meant mapped shown
returns-in-Ok-Request-clause-numbers c =
    rw (sym (rw (c.in-Ok-Request.is, c.in-Ok-Request.field-0-is) at c.read_known.ensures), c.number-in-Ok-Request.ensures (cut_block c.args.s.now)) refl

pub returns-in-Ok-Request-clause-block : goal.returns-in-Ok-Request-clause-block
unfolding meant mapped
returns-in-Ok-Request-clause-block c =
    tells c.args.s.now c.args.known c.args.block.now (sym (rw (c.in-Ok-Request.is, c.in-Ok-Request.field-0-is) at c.read_known.ensures)) (ap length c.cut_block-end.ensures)

pub returns-in-Err-clause-answer : goal.returns-in-Err-clause-answer
unfolding mapped number_of
returns-in-Err-clause-answer c = rw (sym (rw c.in-Err.is at c.read_known.ensures), c.number-in-Err.ensures.0) refl

pub returns-in-Err-clause-numbers : goal.returns-in-Err-clause-numbers
unfolding mapped shown
returns-in-Err-clause-numbers c = rw (sym (rw c.in-Err.is at c.read_known.ensures)) refl

pub returns-in-Err-clause-block : goal.returns-in-Err-clause-block
unfolding mapped
returns-in-Err-clause-block c = tells-nothing c.args.s.now c.args.block.now (sym (rw c.in-Err.is at c.read_known.ensures))
