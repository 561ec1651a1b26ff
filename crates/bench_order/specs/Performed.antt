-- What an order of the bench answers, and every octet that it leaves.
use Rattle.std.specs.Prelude.{ℕ, ◌≡◌, List}
use Rattle.octets.specs.Test.{Outcome, refused, ok}
use Rattle.call_spec.specs.declared.Call.{Call}
use Rattle.call_spec.specs.declared.Call.TheVariants.{Receive}
use Rattle.call_spec.specs.Calls.{buffer_after}
use Rattle.call_spec.specs.Claim.{Lent, LentAct, call, restart, cut}
use Rattle.call_spec.specs.Answers.{block_of, block_buffer_after}
use Rattle.bench_spec.specs.Bench.{Bench, bench_of, At, lent_at, order_of, comes, end_of, bench_after}
use Rattle.bench_call.specs.declared.BenchAnswer.{BenchAnswer}
use Rattle.bench_call.specs.Answer.{start_of, bench_block_at, bench_answer_of}

-- where the block of the frame that a line delivers stands in the log; 0 for a line that delivers none
unfoldable pub line_start : List ℕ → ℕ
line_start s = start_of (order_of s)

-- The call that a line makes. One that is refused, or restarts an end, leaves the buffer for a block alone, as receiving does.
unfoldable pub call_by : LentAct → Call
call_by (call c) = c.call
call_by (restart rec) = Receive
call_by (cut c rec) = Receive

unfoldable pub call_of : Outcome At → Call
call_of (refused n) = Receive
call_of (ok x) = call_by x.1

-- A line on the bench w: q is the call that it makes, or its refusal; start is where the block of the frame that it delivers, if it
-- delivers one, stands in the log.
pub record Performed (w : Bench) (q : Outcome At) (start : ℕ) (out up : List ℕ) (a b : Lent) (log out' up' : List ℕ) (r : BenchAnswer) : Type 0 where
  pub answer : r ≡ bench_answer_of (end_of q) (lent_at (end_of q) w).rec w.count start (comes w q)
  pub bench : bench_of a b log r.count ≡ bench_after (end_of q) w (comes w q)
  pub buffer : out' ≡ buffer_after out (comes w q)
  pub block_buffer : up' ≡ block_buffer_after (call_of q) up (comes w q)
  pub handed : bench_block_at r.at r.block log up' ≡ block_of (comes w q)
