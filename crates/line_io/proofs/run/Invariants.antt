use Rattle.line_io.specs.Program.{Ran}
use Rattle.line_io.proofs.run.Given as goal

abbrev pub invariant-loop-p : goal.invariant-loop-p
invariant-loop-p g l =
    let a = g.A.Responder in
    Ran a.answering a.ROOM (a.state l.fn.answers) (a.state l.answers) l.buffers.input l.buffers.line l.buffers.output l.p

abbrev pub decreases-loop-p : goal.decreases-loop-p
decreases-loop-p g l = l.p.steps
