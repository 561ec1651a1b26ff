-- The walk: the first frame that matters is delivered, again and again, until none does. It is what a tester does in a loop, and it ends.
use Rattle.std.specs.Prelude.{ℕ, zero, suc, ◌+◌, ◌-◌, ◌*◌, ◌≤◌, ◌<◌, ◌≡◌, None, Some, ◌∷◌}
use Rattle.octets.specs.Sizes.{longest_frame, longest_block}
use Rattle.octets.specs.Test.{first, refused, ok, number_of}
use Rattle.octets.specs.Octets.{octets_of, Octets}
use Rattle.hexadecimal.specs.Line.{hex}
use Rattle.protocol.specs.Rank.{lift, rank}
use Rattle.call_spec.specs.Calls.{rooms}
use Rattle.call_spec.specs.Claim.{Lent}
use Rattle.lent_record.specs.Record.{format}
use Rattle.bench_log.specs.Log.{places}
use Rattle.bench_spec.specs.Bench.{Bench, deliver, line_asks, comes}
use Rattle.bench_spec.specs.Run.{LentLine, line_after}
use Rattle.bench_query.specs.Found.{Found, query_questions, first_frame}

-- line 52 with the number of a frame, and room for what its delivery sends
unfoldable pub delivery_line : ℕ → LentLine
delivery_line n = (hex (deliver ∷ octets_of 2 n), rooms longest_frame longest_block)

-- What a tester does with the answer to the question: the frame named is delivered. Where none is, or the question is refused, nothing is done.
unfoldable pub delivered : Found → Bench → Bench
delivered (ok (Some n)) w = line_after w (delivery_line n)
delivered (ok None) w = w
delivered (refused k) w = w

-- so often, the question being asked anew each time
unfoldable pub walked : ℕ → Bench → Bench
walked zero w = w
walked (suc n) w = walked n (delivered (first_frame w) w)

-- So many deliveries are left at the most: one that sends takes a place of the log and lifts its end by no more than two; every other brings its
-- end down.
abbrev pub rank_of : Lent → ℕ
rank_of r = rank (format.holds r.rec)

unfoldable pub deliveries_left : Bench → ℕ
deliveries_left w = (1 + lift) * (places - w.count) + (rank_of w.a + rank_of w.b)

-- what is lent is octets
pub record Lendable (w : Bench) : Type 0 where
  pub octets_a : Octets w.a.rec
  pub octets_b : Octets w.b.rec
  pub octets_log : Octets w.log

-- what the question answers when the walk has ended: none, or the refusal by which it never began
unfoldable pub walk_end : Found → Found
walk_end (ok (Some n)) = ok None
walk_end (ok None) = ok None
walk_end (refused k) = refused k

-- Of a bench: each line of the walk is accepted, and leaves fewer deliveries; so when all that are left are made it has ended,
-- and however long it goes on. They are at most three for each place left and eighteen more, since an open end has a rank of at most nine.
pub record WalkEnds (w : Bench) : Type 0 where
  pub accepted : (n : ℕ) → first_frame w ≡ ok (Some n) → number_of (comes w (line_asks w (delivery_line n).0 (delivery_line n).1)) ≡ 0
  pub fewer : (n : ℕ) → first_frame w ≡ ok (Some n) → deliveries_left (delivered (ok (Some n)) w) < deliveries_left w
  pub ends : (n : ℕ) → deliveries_left w ≤ n → first_frame (walked n w) ≡ walk_end (first_frame w)
  pub at_most : first (query_questions w) ≡ 0 → deliveries_left w ≤ 3 * (places - w.count) + 18

-- The claim, of every bench of octets.
abbrev pub EveryWalkEnds : Type 0
EveryWalkEnds = (w : Bench) → Lendable w → WalkEnds w
