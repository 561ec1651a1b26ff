-- The tests of each question, for the code. No entry point's contract needs this.
use Rattle.std.specs.Prelude.{ℕ, Bool, List, [], ◌∷◌, ◌≤◌, leb, length}
use Rattle.octets.specs.Sizes.{longest_frame, longest_block, page_size}
use Rattle.call_spec.specs.Calls.{Rooms}
use Rattle.call_spec.specs.Claim.{Lent}
use Rattle.endpoint.specs.Record.{record_size}
use Rattle.bench_log.specs.Log.{log_size, places}
use Rattle.bench_spec.specs.Bench.{Bench, sound_at, paged_at}

abbrev pub room_tests : Bench → Rooms → List Bool
room_tests w room =
    leb record_size (length w.a.rec)
    ∷ leb record_size (length w.b.rec)
    ∷ leb page_size (length w.a.page)
    ∷ leb page_size (length w.b.page)
    ∷ leb log_size (length w.log)
    ∷ leb longest_frame room.frame
    ∷ leb longest_block room.block
    ∷ []

abbrev pub sound_tests : ℕ → Bench → List Bool
sound_tests k w = sound_at k 0 w.a ∷ sound_at k 1 w.b ∷ leb w.count places ∷ []

abbrev pub page_tests : ℕ → Bench → List Bool
page_tests k w = paged_at k 0 w.a ∷ paged_at k 1 w.b ∷ []

-- where there is room, the records and the pages are long enough
abbrev pub Long : Lent → Type 0
Long l = (record_size ≤ length l.rec) × (page_size ≤ length l.page)
