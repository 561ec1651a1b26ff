use Rattle.line_io.proofs.Steps.{next-refilled}
use Rattle.line_io.proofs.Buffers.next.Goals as goal

-- the input at hand is used up
pub returns-then-p-clause-next : goal.returns-then-p-clause-next
returns-then-p-clause-next c =
    next-refilled c.requires.0 c.requires.1 c.if-p.true
    (record { written = c.flush-written.result; flushed = c.flush-written.ensures; filled = c.fill.ensures.filled; held = c.fill.ensures.others.0 })
