-- The law of what answers the lines: a line counts as what is kept of it. It stands here, proof and all, since an impl's law cites specs/ alone.
use Rattle.std.specs.Prelude.{ℕ, zero, suc, ◌≡◌, List, [], refl}
use Rattle.std.proofs.Common.{ap, sym, ◌∙◌}
use Rattle.std.proofs.Math.Nat.{suc-ne-zero}
use Rattle.octets.specs.Test.{if_eq, first, Outcome, refused, ok, refusing}
use Rattle.octets.proofs.Test.{eq_yes, eq_no}
use Rattle.octets.specs.Sizes.{longest_frame, longest_block}
use Rattle.call_spec.specs.Calls.{rooms}
use Rattle.hexadecimal.specs.Line.{unhex, line_questions}
use Rattle.bench_spec.specs.Bench.{Bench, buffer_questions, room_questions, sound_questions, At, octets_ask, restarted_by, restarted_end, neither, line_asks, comes, end_of, bench_after}
use Rattle.bench_answer.specs.Text.{bench_text, bench_asks}
use Rattle.line_split.specs.Split.{cut}
use Rattle.line_split.proofs.Long.{asks-cut}
use Rattle.line_io.specs.Answering.{Cuts}
use Rattle.bench_run.specs.Ends.{both_ends}

-- the end that a line restarts, as an outcome of its characters
abbrev end_in : Outcome ℕ → ℕ
end_in (refused n) = neither
end_in (ok k) = k

named : (n k : ℕ) → if_eq n 0 k neither ≡ end_in (refusing n (ok k))
unfolding refusing
named zero k = eq_yes 0 0 k neither refl
named (suc n) k = eq_no (suc n) 0 k neither (suc-ne-zero n)

restarts_in : (l : List ℕ) → restarted_end l ≡ end_in (refusing (first (line_questions l)) (ok (restarted_by (unhex l))))
unfolding restarted_end
restarts_in l = named (first (line_questions l)) (restarted_by (unhex l))

restarts_cut : (l : List ℕ) → restarted_end (cut l) ≡ restarted_end l
restarts_cut l = restarts_in (cut l) ∙ ap end_in (asks-cut [] tt (λ (x : List ℕ). ok (restarted_by (unhex x))) l) ∙ sym (restarts_in l)

same : (w : Bench) (l : List ℕ) → bench_asks w (cut l) ≡ bench_asks w l
unfolding line_asks
same w l = rw (restarts_cut l) (asks-cut (buffer_questions w (room_questions (rooms longest_frame longest_block) (sound_questions (restarted_end l) w []))) tt (λ (x : List ℕ). octets_ask w (unhex x) (rooms longest_frame longest_block)) l)

pub cuts : Cuts both_ends
cuts =
    record {
      next = λ w l. ap (λ (q : Outcome At). bench_after (end_of q) w (comes w q)) (same w l);
      says = λ w l. ap (bench_text w) (same w l);
    }
