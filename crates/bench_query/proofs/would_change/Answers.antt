use Rattle.std.proofs.Common.{sym, ap, ◌∙◌, arith}
use Rattle.bench_log.proofs.Log.{held}
use Rattle.bench_spec.specs.Bench.{end_number}
use Rattle.bench_checks.specs.Ready.{bench_in}
use Rattle.bench_query.proofs.Delivery.{ready, not-held, to_a, to_b}
use Rattle.bench_query.proofs.would_change.Goals as goal

pub holds-requires : goal.holds-requires
holds-requires c = let r = ready (bench_in c.args.bench) c.requires in (r.long_log, r.few)

pub returns-then-not-holds : goal.returns-then-not-holds
returns-then-not-holds c = sym (not-held (bench_in c.args.bench) c.args.n (sym c.holds.ensures ∙ c.if-not-holds.true))

pub frame_of-s-requires : goal.frame_of-s-requires
frame_of-s-requires c =
    let w = bench_in c.args.bench in
    let r = ready w c.requires in
    let h = held w.count c.args.n w.log (sym c.holds.ensures ∙ c.if-not-holds.false) in
    (r.long_log, (omega (arith, r.few, h.below), h.short))

pub receiver_of-requires : goal.receiver_of-requires
receiver_of-requires c =
    let w = bench_in c.args.bench in
    let r = ready w c.requires in
    let h = held w.count c.args.n w.log (sym c.holds.ensures ∙ c.if-not-holds.false) in
    (r.long_log, omega (arith, r.few, h.below))

pub changes-requires : goal.changes-requires
changes-requires c = let r = ready (bench_in c.args.bench) c.requires in (r.fit_a.long, r.fit_a.is_sound)

pub returns-in-A : goal.returns-in-A
returns-in-A c =
    let w = bench_in c.args.bench in
    let r = ready w c.requires in
    rw c.frame_of-s.ensures at (c.changes.ensures w.a.page r.fit_a.page_long r.fit_a.goes)
    ∙ sym (to_a w c.args.n (sym c.holds.ensures ∙ c.if-not-holds.false) (λ z. omega (arith, c.receiver_of.ensures, ap end_number c.in-A.is, z)))

pub changes-requires-in-B : goal.changes-requires-in-B
changes-requires-in-B c = let r = ready (bench_in c.args.bench) c.requires in (r.fit_b.long, r.fit_b.is_sound)

pub returns-in-B : goal.returns-in-B
returns-in-B c =
    let w = bench_in c.args.bench in
    let r = ready w c.requires in
    rw c.frame_of-s.ensures at (c.changes-in-B.ensures w.b.page r.fit_b.page_long r.fit_b.goes)
    ∙ sym (to_b w c.args.n (sym c.holds.ensures ∙ c.if-not-holds.false) (omega (arith, c.receiver_of.ensures, ap end_number c.in-B.is)))
