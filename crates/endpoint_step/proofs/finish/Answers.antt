use Rattle.std.proofs.Common.{length, sym}
use Rattle.call_spec.specs.Calls.{rooms}
use Rattle.endpoint.specs.Internal.{whole}
use Rattle.endpoint_plan.proofs.Carries.{long, sendable, ready-to, handy}
use Rattle.endpoint_step.proofs.Answers.{accepts}
use Rattle.endpoint_step.proofs.finish.Goals as goal

pub send-sent-requires : goal.send-sent-requires
send-sent-requires c =
    let a = c.args in
    let p = c.parts-parts in
    let w = c.requires.1 in
    sendable (whole p.result) (long p.result) a.call (rooms (length a.out.now) (length a.up.now)) a.block.now w.0 (rw (sym p.ensures) at w.1)

pub hand_up-handed-requires : goal.hand_up-handed-requires
hand_up-handed-requires c = λ _.
    let a = c.args in
    let p = c.parts-parts in
    let w = c.requires.1 in
    handy (whole p.result) (long p.result) a.call (rooms (length a.out.now) (length a.up.now)) a.block.now w.0 (rw (sym p.ensures) at w.1)

pub carry_out-requires : goal.carry_out-requires
carry_out-requires c =
    let a = c.args in
    let p = c.parts-parts in
    let w = c.requires.1 in
    ready-to (whole p.result) (long p.result) a.call (rooms (length a.out.now) (length a.up.now)) a.block.now w.0 (rw (sym p.ensures) at w.1)

pub returns : goal.returns
returns c =
    let a = c.args in
    let p = c.parts-parts in
    rw (sym p.ensures)
    (λ o w. accepts (whole p.result) (long p.result) a.call (rooms (length a.out.now) (length a.up.now)) a.block.now o w
    c.send-sent.ensures c.hand_up-handed.ensures (rw (sym p.ensures) at c.carry_out.ensures) c.number.ensures)
