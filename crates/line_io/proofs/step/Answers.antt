use Rattle.std.proofs.Common.{rules, sym, ◌∙◌}
use Rattle.std.proofs.lemmas.Bool.{true≢false}
use Rattle.line_io.proofs.Steps.{free-room, step-none, step_line, replied}
use Rattle.line_io.proofs.step.Goals as goal

-- a line is ready, and there is room for its answer
pub ready-requires : goal.ready-requires
ready-requires g c =
    let x = rw c.ROOM.ensures at c.next-q.ensures.next in
    let y = x.ready g.met.A.Responder.fits (λ z. true≢false (sym c.if-q.true ∙ z)) in
    search rules

pub answer-n-requires : goal.answer-n-requires
answer-n-requires g c =
    let x = rw c.ROOM.ensures at c.next-q.ensures.next in
    let y = x.ready g.met.A.Responder.fits (λ z. true≢false (sym c.if-q.true ∙ z)) in
    free-room c.next-q.new.self.output (search rules) c.next-q.result.filled _ y.free

pub answered-requires : goal.answered-requires
answered-requires g c =
    let x = rw c.ROOM.ensures at c.next-q.ensures.next in
    let r = replied c.next-q.new.self.output (search rules) c.next-q.result.filled x.fits.filled c.answer-n.ensures (search rules) in
    r.room

pub returns-then-q : goal.returns-then-q
returns-then-q g c =
    let x = rw c.ROOM.ensures at c.next-q.ensures.next in
    let r = replied c.next-q.new.self.output (search rules) c.next-q.result.filled x.fits.filled c.answer-n.ensures (search rules) in
    rw (c.answered.ensures, ← c.next-q.ensures.output)
    (step_line g.met.A.Responder.cuts (search rules) x (λ z. true≢false (sym c.if-q.true ∙ z)) (rw c.ready.ensures at r))

pub returns : goal.returns
returns g c =
    let x = rw c.ROOM.ensures at c.next-q.ensures.next in
    rw c.next-q.ensures.output (step-none (g.A.Responder.state c.args.answers.now) c.args.buffers.now.output x c.if-q.false)
