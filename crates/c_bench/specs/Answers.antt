-- What a bench line answers for C, in numbers.
use Rattle.std.specs.Prelude.{ℕ}
use Rattle.bench_spec.specs.Bench.{end_at}
use Rattle.bench_call.specs.declared.BenchAnswer.{BenchAnswer}

abbrev pub bench_answer_in : ℕ → ℕ → ℕ → ℕ → ℕ → ℕ → ℕ → ℕ → ℕ → ℕ → BenchAnswer
bench_answer_in number end state notice local remote sent at block count =
    record {
      end = end_at end;
      status = record { number = number; state = state; notice = notice; local = local; remote = remote };
      sent = sent;
      at = at;
      block = block;
      count = count;
    }
