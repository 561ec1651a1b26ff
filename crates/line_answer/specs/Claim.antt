-- Two ends that are asked by lines (document 01, "Demand 3, over a list of calls"): any lines, refused ones and empty ones included.
-- No line restarts an end here: 53 is refused by 3 (document 02, N6, has it on the bench).
use Rattle.std.specs.Prelude.{ℕ, ◌≡◌, List, []}
use Rattle.octets.specs.Test.{first, Outcome, refusing, mapped}
use Rattle.hexadecimal.specs.Line.{unhex, line_questions}
use Rattle.protocol.specs.History as protocol
use Rattle.protocol.specs.World.{Ends, End, called}
use Rattle.call_spec.specs.Calls.{said}
use Rattle.call_spec.specs.Claim.{Lent, call, LentDue}
use Rattle.lent_record.specs.Record.{format}
use Rattle.lent_record.specs.Record as link
use Rattle.lent_record.specs.Told.{lent_after}
use Rattle.line_answer.specs.Line.{line_call, line_outcome}

-- The call of the protocol that a line says: 1 and 2 of the line, then 3 to 7. An empty line says none, 1 refuses it: how an end stands is no call of the
-- list, and leaves no trace in the history (document 02, N5).
unfoldable pub said_in : List ℕ → Outcome protocol.Act
said_in line = refusing (first (line_questions line)) (mapped protocol.call (said (line_call (unhex line))))

-- A line may stand anywhere, but a frame received is one that an earlier line at the other end sent.
abbrev pub ends : Ends
ends =
    record {
      Record = Lent;
      Fresh = (link.ends).Fresh;
      Call = List ℕ;
      said = λ r. said_in;
      comes = λ r. line_outcome r.rec r.page;
      leaves = λ r line. lent_after r;
      Due = λ this other line. first (line_questions line) ≡ 0 → LentDue format other (call (line_call (unhex line)));
    }

-- The claim beside demand 3: how an end stands leaves no trace in the history.
abbrev pub NoTrace : Type 0
NoTrace = (x : End Lent) → (called ends [] x).history ≡ x.history
