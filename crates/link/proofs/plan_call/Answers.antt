use Rattle.call_spec.specs.Calls.{rooms}
use Rattle.link.proofs.Answers.{plans_lent}
use Rattle.link.proofs.plan_call.Goals as goal

pub returns : goal.returns
returns c =
    let a = c.args in
    plans_lent a.rec.now c.requires a.page.now a.s.now a.call (rooms a.room.frame a.room.block) c.plan_call.result
    (rw c.load.ensures at c.plan_call.ensures)
