-- A refused line leaves all as it is.
use Prim.Native.Nat.{ℕ}
use mathlib.Core.Path.{◌≡◌, refl, ap, ◌∙◌}
use mathlib.Core.List.{List}
use Rattle.octets.specs.Test.{when, if_eq, refused, mapped}
use Rattle.octets.specs.Octets.{left}
use Rattle.octets.proofs.Test.{if-eq}
use Rattle.call_spec.specs.declared.Call.{Call}
use Rattle.call_spec.specs.declared.Call.TheVariants.{Request, Receive}
use Rattle.call_spec.specs.Calls.{record_after, buffer_after, page_after}
use Rattle.call_spec.specs.Claim.{Lent}
use Rattle.call_spec.specs.Answers.{block_of, block_buffer_after}
use Rattle.lent_record.specs.Told.{sent_of}
use Rattle.bench_spec.specs.Bench.{Bench, bench_of, end_of, log_after, count_after, bench_after}
use Rattle.bench_call.specs.Answer.{bench_answer_of}
use Rattle.bench_order.specs.Performed.{call_of}
use Rattle.bench_line.specs.Performed.{asks_lent, RefusedLeavesAll}

-- the bench after a refusal, which names either end
bench_stays : (i k : ℕ) (w : Bench) → bench_after i w (refused k) ≡ w
unfolding bench_after record_after page_after mapped left log_after count_after
bench_stays i k w =
    let a = if-eq (λ (x : Lent). x ≡ w.a) i 0 (λ _. refl) (λ _. refl) in
    let b = if-eq (λ (x : Lent). x ≡ w.b) i 0 (λ _. refl) (λ _. refl) in
    λ j. bench_of (a j) (b j) w.log w.count

block_stays : (c : Call) (up : List ℕ) (k : ℕ) → block_buffer_after c up (refused k) ≡ up
unfolding block_buffer_after mapped left
block_stays Request up k = refl
block_stays Receive up k = refl

pub refused_leaves : RefusedLeavesAll
unfolding buffer_after mapped left bench_answer_of sent_of block_of count_after if_eq when
refused_leaves w line out up a b log out' up' r p k e =
    let q = asks_lent w line out up in
    let s = p.bench ∙ ap (bench_after (end_of q) w) e ∙ bench_stays (end_of q) k w in
    record {
      end_a = ap (λ (x : Bench). x.a) s;
      end_b = ap (λ (x : Bench). x.b) s;
      frames = ap (λ (x : Bench). x.log) s;
      buffer = p.buffer ∙ ap (buffer_after out) e;
      block_buffer = p.block_buffer ∙ ap (block_buffer_after (call_of q) up) e ∙ block_stays (call_of q) up k;
      answer = rw e at p.answer;
    }
