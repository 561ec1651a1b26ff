use Rattle.std.proofs.Common.{true, false}
use Rattle.line_io.proofs.Steps.{flushed}
use Rattle.line_io.proofs.Buffers.flush.Goals as goal

pub returns-in-Ok : goal.returns-in-Ok
returns-in-Ok c = flushed true c.after_write.ensures

pub returns-in-Err : goal.returns-in-Err
returns-in-Err c = flushed false c.after_write-in-Err.ensures
