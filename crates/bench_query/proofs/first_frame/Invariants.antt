use Rattle.std.proofs.Common.{◌≡◌, ◌-◌}
use Rattle.bench_checks.specs.Ready.{bench_in}
use Rattle.bench_query.specs.Found.{would_change, lowest}
use Rattle.bench_query.proofs.first_frame.Given as goal

-- The lowest of all is the lowest of those from n on.
abbrev pub invariant-loop-n : goal.invariant-loop-n
invariant-loop-n l = let w = bench_in l.bench in lowest (would_change w) l.n (w.count - l.n) ≡ lowest (would_change w) 0 w.count

abbrev pub decreases-loop-n : goal.decreases-loop-n
decreases-loop-n l = l.bench.count - l.n
