use Rattle.std.proofs.Common.{arith}
use Rattle.lent_record.proofs.Fresh.{end_fresh}
use Rattle.bench_run.proofs.Ends.{all-fresh}
use Rattle.bench_run.proofs.run.Goals as goal

pub returns : goal.returns
returns c =
    let e = end_fresh {rec = c.args.ends.now.a} c.restart.ensures (omega arith) c.requires.a_page_value.0 in
    let f = end_fresh {rec = c.args.ends.now.b} c.restart-2.ensures (omega arith) c.requires.a_page_value.1 in
    let w = all-fresh e f c.requires.log_value.0 c.requires.log_value.1 in
    (rw w at c.run.ensures.0, c.run.ensures.1)
