-- What answers a line on the bench, and the program's theorem.
use Prim.Native.Nat.{ℕ}
use mathlib.Core.Path.{◌≡◌, refl, ap}
use mathlib.Core.List.{List}
use Rattle.octets.specs.Test.{Outcome}
use Rattle.hexadecimal.specs.Line.{normal}
use Rattle.hexadecimal.proofs.Normal.{asked_alike, unhex-normal}
use Rattle.call_spec.specs.Claim.{Lent}
use Rattle.lent_record.specs.Told.{fresh_end}
use Rattle.bench_spec.specs.Bench.{Bench, bench_of, At, restarted_end, line_asks, comes, end_of, bench_after}
use Rattle.bench_answer.specs.Text.{answer_room, bench_text, bench_asks}
use Rattle.line_io.specs.Claim.{WholeText, EitherCase}
use Rattle.line_io.proofs.Answers.{input_normal}
use Rattle.line_io.proofs.Program.{program-run}
use Rattle.bench_run.specs.Ends.{both_ends, fresh_bench}
use Rattle.bench_run.specs.Laws.{cuts}

-- A line counts as its normal form, so an input is answered in either case with the same text.
either_case : (w : Bench) (l : List ℕ) → bench_asks w (normal l) ≡ bench_asks w l
unfolding line_asks restarted_end
either_case w l = rw (asked_alike l, unhex-normal l) refl

pub either_case_text : EitherCase both_ends fresh_bench
either_case_text =
    input_normal both_ends
    (λ w l. ap (λ (q : Outcome At). bench_after (end_of q) w (comes w q)) (either_case w l))
    (λ w l. ap (bench_text w) (either_case w l))
    fresh_bench

-- two fresh ends and an empty log
pub all-fresh : {a b : Lent} {log : List ℕ} {count : ℕ} → a ≡ fresh_end → b ≡ fresh_end → log ≡ fresh_bench.log → count ≡ fresh_bench.count → bench_of a b log count ≡ fresh_bench
all-fresh e f l n = rw (e, f, l, n) refl

-- THE theorem, of the program: from fresh ends and an empty log to its end after the end of the input, however the input came in pieces, all that was
-- handed to be written is the text of the input.
pub whole : WholeText both_ends answer_room fresh_bench
whole = program-run cuts
