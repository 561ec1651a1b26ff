use Rattle.std.proofs.Common.{length}
use Rattle.call_spec.specs.Calls.{given, rooms}
use Rattle.endpoint_plan.specs.Calls.{outcome_of}
use Rattle.endpoint_plan.proofs.Carries.{by_block, reservable, reserves}
use Rattle.endpoint_step.proofs.Answers.{turned_down, advances}
use Rattle.endpoint_step.proofs.step.Goals as goal

pub reserve-requires : goal.reserve-requires
reserve-requires c =
    let a = c.args in
    reservable a.e a.page.now (given a.call a.s.now (rooms (length a.out.now) (length a.up.now))) (rw c.parts.ensures at c.in-Ok.ensures)

pub returns-in-Err : goal.returns-in-Err
returns-in-Err c = turned_down (rw c.parts.ensures at c.in-Err.ensures) c.args.out.now c.args.up.now c.unchanged.ensures

pub returns-in-Ok : goal.returns-in-Ok
returns-in-Ok c =
    let a = c.args in
    let k = given a.call a.s.now (rooms (length a.out.now) (length a.up.now)) in
    let b = c.cut_block.ensures in
    let w = rw c.parts.ensures at c.in-Ok.ensures in
    advances b (c.finish.ensures (outcome_of a.e a.page.now k) (by_block b w)) (reserves a.e a.page.now k w c.reserve.ensures.0)
