use Rattle.std.proofs.Common.{rules, arith, sym, ◌∙◌}
use Rattle.bench_checks.specs.Ready.{bench_in}
use Rattle.bench_query.specs.Found.{would_change}
use Rattle.bench_query.proofs.Lowest.{asked, here, further, none_left, declined, names}
use Rattle.bench_query.proofs.first_frame.Goals as goal

pub returns-in_err-ready : goal.returns-in_err-ready
returns-in_err-ready c = let e = declined (bench_in c.args.bench) c.in_err-ready.field-0.0 c.in_err-ready.ensures in search (rules, e)

pub would_change-requires : goal.would_change-requires
would_change-requires c = sym (asked (bench_in c.args.bench) c.in_ok-ready.ensures)

pub returns-then-would_change : goal.returns-then-would_change
returns-then-would_change c =
    let w = bench_in c.args.bench in
    names w (sym (asked w c.in_ok-ready.ensures)) (sym c.loop-n.invariant ∙ here (would_change w) c.loop-n.n w.count (omega arith) (sym c.would_change.ensures ∙ c.if-would_change.true))

pub loop-n-preserved : goal.loop-n-preserved
loop-n-preserved c =
    let w = bench_in c.args.bench in
    sym (further (would_change w) c.loop-n.n w.count (omega arith) (sym c.would_change.ensures ∙ c.if-would_change.false)) ∙ c.loop-n.invariant

pub returns-then-n-bench : goal.returns-then-n-bench
returns-then-n-bench c =
    let w = bench_in c.args.bench in
    names w (sym (asked w c.in_ok-ready.ensures)) (sym c.loop-n.invariant ∙ none_left (would_change w) c.loop-n.n w.count (omega arith))
