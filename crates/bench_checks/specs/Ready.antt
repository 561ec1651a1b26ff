-- Questions 11, 12 and 15 of all that is lent to the bench.
use Rattle.std.specs.Prelude.{ℕ, List, []}
use Rattle.octets.specs.Test.{Question}
use Rattle.call_spec.specs.Calls.{Rooms}
use Rattle.call_spec.specs.Claim.{Lent, lent}
use Rattle.bench_checks.specs.declared.LentEnd.{LentEnd}
use Rattle.bench_checks.specs.declared.LentBench.{LentBench}
use Rattle.bench_spec.specs.Bench.{Bench, bench_of, buffer_questions, room_questions, sound_questions}

-- what is lent, as the definitions have it
abbrev pub lent_in : LentEnd → Lent
lent_in e = lent e.rec.now e.page.now

abbrev pub bench_in : LentBench → Bench
bench_in w = bench_of (lent_in w.a) (lent_in w.b) w.log.now w.count

-- with buffers of so many octets for a frame and for a block, where the end k, or neither, is restarted
abbrev pub ready_questions : ℕ → Bench → Rooms → List Question
ready_questions k w room = buffer_questions w (room_questions room (sound_questions k w []))
