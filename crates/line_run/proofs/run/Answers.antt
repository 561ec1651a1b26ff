use Rattle.std.proofs.Common.{arith}
use Rattle.lent_record.proofs.Fresh.{end_fresh}
use Rattle.line_run.proofs.run.Goals as goal

pub returns : goal.returns
returns c =
    let e = end_fresh c.restart.ensures (omega arith) c.requires in
    (rw e at c.run.ensures.0, c.run.ensures.1)
