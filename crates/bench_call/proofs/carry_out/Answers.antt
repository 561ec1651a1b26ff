use Rattle.std.proofs.Common.{◌≡◌, length, rules}
use Rattle.call_spec.specs.Calls.{rooms}
use Rattle.call_spec.specs.Claim.{lent}
use Rattle.bench_spec.specs.Bench.{numbered, end_number}
use Rattle.bench_call.specs.Answer.{start_of}
use Rattle.bench_call.specs.Internal.{task_of, call_by, order_outcome}
use Rattle.bench_call.proofs.Does.{loggable, does}
use Rattle.bench_call.proofs.Orders.{task-ready, ordered, short, place_left_lem, block-stands}
use Rattle.bench_call.proofs.carry_out.Goals as goal

pub do_task-told-requires : goal.do_task-told-requires
do_task-told-requires c =
    let a = c.args in
    rw c.task_of.ensures (task-ready (lent a.rec.now a.page.now) a.s.now a.log.now a.count a.out.now a.up.now (numbered a.order) c.requires)

pub finish-requires : goal.finish-requires
finish-requires c =
    let a = c.args in
    let l = lent a.rec.now a.page.now in
    let o = numbered a.order in
    let w = ordered l a.s.now a.log.now a.count a.out.now a.up.now o c.task_of.ensures c.octets_of.ensures c.do_task-told.ensures in
    let same : length c.do_task-told.new.out ≡ length a.out.now = search rules in
    loggable (end_number a.end) l a.log.now a.count 0 (call_by (task_of o))
    (order_outcome o l a.log.now a.count a.s.now (rooms (length a.out.now) (length a.up.now))) w.0
    (short l a.s.now a.log.now a.count a.out.now a.up.now o c.requires) (place_left_lem l a.s.now a.log.now a.count a.out.now a.up.now o c.requires) same

pub returns : goal.returns
returns c =
    let a = c.args in
    let l = lent a.rec.now a.page.now in
    let o = numbered a.order in
    let w = ordered l a.s.now a.log.now a.count a.out.now a.up.now o c.task_of.ensures c.octets_of.ensures c.do_task-told.ensures in
    let r = rw c.start_of.ensures at c.finish.ensures.0 in
    does (end_number a.end) l a.log.now a.count (start_of o) (call_by (task_of o))
    (order_outcome o l a.log.now a.count a.s.now (rooms (length a.out.now) (length a.up.now))) w.0
    (block-stands l a.s.now a.log.now a.count a.out.now a.up.now o c.requires (end_number a.end) w.0) w.1 r c.finish.ensures.1
