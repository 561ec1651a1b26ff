-- What answers the lines of the line program: one end.
use Rattle.std.specs.Prelude.{ℕ, ◌≡◌, List, [], ◌∷◌}
use Rattle.call_spec.specs.Claim.{Lent}
use Rattle.lent_record.specs.Told.{lent_after, fresh_end}
use Rattle.line_answer.specs.Line.{line_outcome}
use Rattle.line_answer.specs.Text.{text}
use Rattle.line_io.specs.Answering.{Answering, state_after}

-- Its state is the record and the page; each start of the program begins with fresh_end. A line's text is that of its outcome.
abbrev pub one_end : Answering
one_end =
    record {
      State = Lent;
      next = λ r line. lent_after r (line_outcome r.rec r.page line);
      says = λ r line. text r.rec (line_outcome r.rec r.page line);
    }

-- the lines that have a character, which are all but those that ask how the end stands (document 02, N5)
unfoldable pub others : List (List ℕ) → List (List ℕ)
others [] = []
others ([] ∷ ls) = others ls
others ((c ∷ l) ∷ ls) = (c ∷ l) ∷ others ls

-- The claim: each line of an input is answered as if the empty ones before it were left out (N5).
abbrev pub LeftOut : Type 0
LeftOut =
    (ls : List (List ℕ)) (l : List ℕ)
    → one_end.says (state_after one_end fresh_end ls) l ≡ one_end.says (state_after one_end fresh_end (others ls)) l
