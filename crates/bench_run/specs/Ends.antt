-- What answers the lines of the bench program: two ends and the log.
use Rattle.std.specs.Prelude.{replicate}
use Rattle.lent_record.specs.Told.{fresh_end}
use Rattle.bench_log.specs.Log.{log_size}
use Rattle.bench_spec.specs.Bench.{Bench, bench_of, comes, end_of, bench_after}
use Rattle.bench_answer.specs.Text.{bench_text, bench_asks}
use Rattle.line_io.specs.Answering.{Answering}

-- Its state is the bench. A line's text is that of what it asks.
abbrev pub both_ends : Answering
both_ends =
    record {
      State = Bench;
      next = λ w line. bench_after (end_of (bench_asks w line)) w (comes w (bench_asks w line));
      says = λ w line. bench_text w (bench_asks w line);
    }

-- what it begins with: fresh ends on new pages, and an empty log
abbrev pub fresh_bench : Bench
fresh_bench = bench_of fresh_end fresh_end (replicate log_size 0) 0
