use Rattle.std.proofs.Common.{◌*◌}
use Rattle.bench_log.proofs.Log.{entered}
use Rattle.bench_log.proofs.enter.Goals as goal

pub returns : goal.returns
returns c = let a = c.args in entered a.log.now a.frame.now (a.n * 80) a.sender c.requires.1.1 c.copy_from_slice.ensures.after c.copy_from_slice-2.ensures.after
