-- Parts of the question, for the code. No entry point's contract needs this.
use Rattle.std.specs.Prelude.{◌≡◌}
use Rattle.octets.specs.Test.{first}
use Rattle.bench_spec.specs.Bench.{Bench}
use Rattle.bench_query.specs.Found.{query_questions}

-- 11, 12 and 15 are passed
abbrev pub BenchReady : Bench → Type 0
BenchReady w = first (query_questions w) ≡ 0
