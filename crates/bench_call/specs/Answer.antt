-- What a call at one end of the bench answers.
use Rattle.std.specs.Prelude.{ℕ, ◌+◌, ◌*◌, List, length, take, drop}
use Rattle.octets.specs.Test.{if_eq, Outcome, refused, ok}
use Rattle.protocol.specs.Table.{Step}
use Rattle.call_spec.specs.Answers.{block_of}
use Rattle.lent_record.specs.Told.{status_of, sent_of}
use Rattle.frame.specs.Frame.{Block}
use Rattle.frame.specs.Layout.{data_block_at}
use Rattle.bench_log.specs.Log.{place_head, place_size}
use Rattle.bench_spec.specs.declared.Order.{Order}
use Rattle.bench_spec.specs.declared.Order.TheVariants as order
use Rattle.bench_spec.specs.Bench.{end_at, count_after}
use Rattle.bench_call.specs.declared.BenchAnswer.{BenchAnswer}

-- Where the block of frame n starts in the log: after its place's sender and length and its own kind, s, r, number and count.
unfoldable pub block_start : ℕ → ℕ
block_start n = n * place_size + (place_head + data_block_at)

-- and that of the frame which an order delivers; 0 where it delivers none
unfoldable pub start_of : Outcome Order → ℕ
start_of (refused n) = 0
start_of (ok (order.Request i)) = 0
start_of (ok (order.Deliver n)) = block_start n
start_of (ok (order.Restart i)) = 0

-- Where a block handed up stands, of n octets: a delivered one in the log, from at on; a collected one, whose at is 0, at the start of the
-- buffer up.
unfoldable pub bench_block_at : ℕ → ℕ → List ℕ → List ℕ → Block
bench_block_at at n log up = if_eq at 0 (take n up) (take n (drop at log))

-- What is told of a call at end i with this record, with so many places in use. A block that the call hands up is in the log from start
-- on, which is 0 for a request.
unfoldable pub bench_answer_of : ℕ → List ℕ → ℕ → ℕ → Outcome Step → BenchAnswer
bench_answer_of i rec count start o =
    record {
      end = end_at i;
      status = status_of rec o;
      sent = sent_of o;
      at = if_eq (length (block_of o)) 0 0 start;
      block = length (block_of o);
      count = count_after count o;
    }
