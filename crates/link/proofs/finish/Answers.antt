use Rattle.std.proofs.Common.{rules, length, sym, ap}
use Rattle.octets.specs.Octets.{Octets}
use Rattle.call_spec.specs.Calls.{rooms}
use Rattle.endpoint.specs.declared.Endpoint.{Endpoint}
use Rattle.endpoint.specs.Internal.{whole}
use Rattle.endpoint_plan.proofs.Carries.{long, sendable, ready-to, handy}
use Rattle.link.proofs.Answers.{turned_down, accepts}
use Rattle.link.proofs.finish.Goals as goal

pub returns-in-Err : goal.returns-in-Err
returns-in-Err c =
    let a = c.args in
    rw c.in-Err.is (λ o w. turned_down w a.call a.rec.now a.block.now a.out.now a.up.now c.decline.ensures)

pub send-sent-requires : goal.send-sent-requires
send-sent-requires c =
    let a = c.args in
    let p = c.load-parts in
    let w = (rw c.in-Ok.is at c.requires).1.1 in
    sendable (whole p.result) (long p.result) a.call (rooms (length a.out.now) (length a.up.now)) a.block.now w.0 (rw (sym p.ensures) at w.1)

pub hand_up-handed-requires : goal.hand_up-handed-requires
hand_up-handed-requires c = λ _.
    let a = c.args in
    let p = c.load-parts in
    let w = (rw c.in-Ok.is at c.requires).1.1 in
    handy (whole p.result) (long p.result) a.call (rooms (length a.out.now) (length a.up.now)) a.block.now w.0 (rw (sym p.ensures) at w.1)

pub store-requires : goal.store-requires
store-requires c =
    let a = c.args in
    let p = c.load-parts in
    let q = rw c.in-Ok.is at c.requires in
    let w = q.1.1 in
    (q.0, ready-to (whole p.result) (long p.result) a.call (rooms (length a.out.now) (length a.up.now)) a.block.now w.0 (rw (sym p.ensures) at w.1))

pub returns : goal.returns
unfolding Octets
returns c =
    let a = c.args in
    let e = c.load-parts.ensures in
    let q = rw c.in-Ok.is at c.requires in
    let octets : Octets a.rec.now = search rules in
    rw c.in-Ok.is
    (λ o w. accepts a.rec.now q.0 octets a.call (rooms (length a.out.now) (length a.up.now)) a.block.now o w
    (rw (ap (λ (x : Endpoint). x.lengths) e, ap (λ (x : Endpoint). x.blocks) e) at c.send-sent.ensures)
    (rw (ap (λ (x : Endpoint). x.held_lengths) e, ap (λ (x : Endpoint). x.held_blocks) e) at c.hand_up-handed.ensures) c.store.ensures c.number.ensures)
