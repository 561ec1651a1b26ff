use Rattle.std.proofs.Common.{◌≡◌, length, replicate, refl, sym, ap, arith, length-take-le}
use Rattle.octets.specs.Sizes.{longest_frame}
use Rattle.call_spec.specs.Claim.{lent}
use Rattle.bench_spec.specs.Bench.{bench_of, end_number}
use Rattle.bench_spec.proofs.Numbers.{by_number, passed_as, follows_as}
use Rattle.bench_line.proofs.Plays.{in_room, can-be-found, known, ready_at_a, ready_at_b, at_a, at_b, named}
use Rattle.bench_line.proofs.perform.Goals as goal

-- as many octets were read as there is room for
pub slice_bounds-s-end : goal.slice_bounds-s-end
slice_bounds-s-end c =
    let a = c.args in
    let w = bench_of (lent a.a.now a.a_page.now) (lent a.b.now a.b_page.now) a.log.now a.count in
    let l : length c.read-read.new.out ≡ longest_frame = c.read-read.auto.out in
    omega (arith, in_room w a.line.now a.out.now a.up.now (replicate longest_frame 0) refl c.read-read.result c.read-read.ensures c.unwrap_or.ensures l, l)

pub slice_bounds-octets-end : goal.slice_bounds-octets-end
slice_bounds-octets-end c =
    let a = c.args in
    let w = bench_of (lent a.a.now a.a_page.now) (lent a.b.now a.b_page.now) a.log.now a.count in
    let l : length c.read-read.new.out ≡ longest_frame = c.read-read.auto.out in
    sym (length-take-le _ _ (omega (arith, in_room w a.line.now a.out.now a.up.now (replicate longest_frame 0) refl c.read-read.result c.read-read.ensures c.unwrap_or.ensures l, l)))

pub decide-decided-requires : goal.decide-decided-requires
decide-decided-requires c =
    let a = c.args in
    let w = bench_of (lent a.a.now a.a_page.now) (lent a.b.now a.b_page.now) a.log.now a.count in
    let u = by_number c.ready-ready.result c.map_err.result c.map_err.ensures.cases in
    λ y. can-be-found w a.line.now a.out.now a.up.now (replicate longest_frame 0) refl c.read-read.result c.read-read.ensures c.unwrap_or.ensures c.order_in-order.ensures c.end_restarted.ensures c.new-bench.ensures c.ready-ready.ensures (passed_as c.ready-ready.result c.map_err.result u y)

pub end_for-end-requires : goal.end_for-end-requires
end_for-end-requires c =
    let a = c.args in
    let w = bench_of (lent a.a.now a.a_page.now) (lent a.b.now a.b_page.now) a.log.now a.count in
    let m = follows_as c.ready-ready.result c.map_err.result c.map_err.ensures.cases _ c.decide-decided.ensures in
    known w a.line.now a.out.now a.up.now (replicate longest_frame 0) refl c.read-read.result c.read-read.ensures c.unwrap_or.ensures c.order_in-order.ensures c.end_restarted.ensures c.new-bench.ensures c.ready-ready.ensures m

pub carry_out-requires : goal.carry_out-requires
carry_out-requires c =
    let a = c.args in
    let w = bench_of (lent a.a.now a.a_page.now) (lent a.b.now a.b_page.now) a.log.now a.count in
    let m = follows_as c.ready-ready.result c.map_err.result c.map_err.ensures.cases _ c.decide-decided.ensures in
    ready_at_a w a.line.now a.out.now a.up.now (replicate longest_frame 0) refl c.read-read.result c.read-read.ensures c.unwrap_or.ensures c.order_in-order.ensures c.end_restarted.ensures c.new-bench.ensures c.ready-ready.ensures m

pub carry_out-requires-in-B : goal.carry_out-requires-in-B
carry_out-requires-in-B c =
    let a = c.args in
    let w = bench_of (lent a.a.now a.a_page.now) (lent a.b.now a.b_page.now) a.log.now a.count in
    let m = follows_as c.ready-ready.result c.map_err.result c.map_err.ensures.cases _ c.decide-decided.ensures in
    ready_at_b w a.line.now a.out.now a.up.now (replicate longest_frame 0) refl c.read-read.result c.read-read.ensures c.unwrap_or.ensures c.order_in-order.ensures c.end_restarted.ensures c.new-bench.ensures c.ready-ready.ensures m

pub returns-in-A-clause-answers : goal.returns-in-A-clause-answers
returns-in-A-clause-answers c =
    let a = c.args in
    let w = bench_of (lent a.a.now a.a_page.now) (lent a.b.now a.b_page.now) a.log.now a.count in
    let m = follows_as c.ready-ready.result c.map_err.result c.map_err.ensures.cases _ c.decide-decided.ensures in
    at_a w a.line.now a.out.now a.up.now (replicate longest_frame 0) refl c.read-read.result c.read-read.ensures c.unwrap_or.ensures c.order_in-order.ensures c.end_restarted.ensures c.new-bench.ensures c.ready-ready.ensures m c.end_for-end.ensures (ap end_number c.in-A.is) c.carry_out.ensures

pub returns-in-A-clause-end : goal.returns-in-A-clause-end
returns-in-A-clause-end c =
    let a = c.args in
    let w = bench_of (lent a.a.now a.a_page.now) (lent a.b.now a.b_page.now) a.log.now a.count in
    named w a.line.now a.out.now a.up.now (returns-in-A-clause-answers c)

pub returns-in-B-clause-answers : goal.returns-in-B-clause-answers
returns-in-B-clause-answers c =
    let a = c.args in
    let w = bench_of (lent a.a.now a.a_page.now) (lent a.b.now a.b_page.now) a.log.now a.count in
    let m = follows_as c.ready-ready.result c.map_err.result c.map_err.ensures.cases _ c.decide-decided.ensures in
    at_b w a.line.now a.out.now a.up.now (replicate longest_frame 0) refl c.read-read.result c.read-read.ensures c.unwrap_or.ensures c.order_in-order.ensures c.end_restarted.ensures c.new-bench.ensures c.ready-ready.ensures m c.end_for-end.ensures (λ z. omega (arith, ap end_number c.in-B.is, z)) c.carry_out-in-B.ensures

pub returns-in-B-clause-end : goal.returns-in-B-clause-end
returns-in-B-clause-end c =
    let a = c.args in
    let w = bench_of (lent a.a.now a.a_page.now) (lent a.b.now a.b_page.now) a.log.now a.count in
    named w a.line.now a.out.now a.up.now (returns-in-B-clause-answers c)
