use Rattle.std.proofs.Common.{refl, arith}
use Rattle.line_io.proofs.Program.{ran-none, ran-more, ran-fits}
use Rattle.line_io.proofs.run.Goals as goal

pub loop-p-init : goal.loop-p-init
loop-p-init g c = ran-none c.args.buffers.now.input c.args.buffers.now.line c.args.buffers.now.output refl c.start-p.ensures

pub step-p-requires : goal.step-p-requires
step-p-requires g c = (ran-fits c.loop-p.invariant, omega arith)

pub loop-p-preserved : goal.loop-p-preserved
loop-p-preserved g c = ran-more c.loop-p.invariant (omega arith) c.step-p.ensures
