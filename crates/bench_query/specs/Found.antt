-- What the question answers (document 01, "Bench", and document 02, N7: the lowest numbered frame in the book whose delivery now would be
-- accepted and change the receiver's record; "none" exactly when no frame would).
use Rattle.std.specs.Prelude.{ℕ, zero, suc, ◌+◌, ◌<◌, ◌≡◌, ◌≢◌, Bool, true, false, not, ◌&&◌, Option, None, Some, List, [], ◌∷◌, eqb}
use Rattle.octets.specs.Sizes.{longest_frame, longest_block}
use Rattle.octets.specs.Test.{when, Question, first, Outcome, refused, ok, outcome}
use Rattle.protocol.specs.Table.{Step}
use Rattle.call_spec.specs.Calls.{rooms, record_after}
use Rattle.lent_record.specs.Record.{format}
use Rattle.bench_spec.specs.Bench.{Bench, At, lent_at, neither, buffer_questions, sound_questions, delivery, comes, end_of}

-- the same octets?
unfoldable pub equal : List ℕ → List ℕ → Bool
equal [] [] = true
equal [] (y ∷ t) = false
equal (x ∷ s) [] = false
equal (x ∷ s) (y ∷ t) = eqb x y && equal s t

-- is a call with this outcome accepted, and does it change the record?
unfoldable pub changes : List ℕ → Outcome Step → Bool
changes rec (refused n) = false
changes rec (ok x) = not (equal (record_after format rec (ok x)) rec)

-- The delivery of frame n, as a line with room for what it sends makes it.
abbrev pub delivers : Bench → ℕ → Outcome At
delivers w n = delivery w n (rooms longest_frame longest_block)

-- Would it now be such a call? One that 14 refuses would not, since then nothing would be delivered.
unfoldable pub would_change : Bench → ℕ → Bool
would_change w n = changes (lent_at (end_of (delivers w n)) w).rec (comes w (delivers w n))

-- What the question answers: a frame's number, none, or the number of a refusal.
abbrev pub Found : Type 0
Found = Outcome (Option ℕ)

-- the lowest number at which the test holds, of the n numbers from i on
unfoldable pub lowest : (ℕ → Bool) → ℕ → ℕ → Option ℕ
lowest p i zero = None
lowest p i (suc n) = when (p i) (Some i) (lowest p (i + 1) n)

-- 11, 12 and 15, as for a line that restarts no end; no buffer for a frame or for a block is lent.
abbrev pub query_questions : Bench → List Question
query_questions w = buffer_questions w (sound_questions neither w [])

-- the answer, where none of them refuses: the first frame that matters
unfoldable pub first_frame : Bench → Found
first_frame w = outcome (first (query_questions w)) (lowest (would_change w) 0 w.count)

-- What that comes to, claimed of every bench: the frame named is in the book, its delivery would change a record, and that of no lower one would;
-- where none is named, no frame's would.
abbrev pub Means : Bench → Found → Type 0
Means w (ok (Some n)) = (first (query_questions w) ≡ 0) × (n < w.count) × (would_change w n ≡ true) × ((k : ℕ) → k < n → would_change w k ≡ false)
Means w (ok None) = (first (query_questions w) ≡ 0) × ((k : ℕ) → would_change w k ≡ false)
Means w (refused k) = (first (query_questions w) ≡ k) × (k ≢ 0)
