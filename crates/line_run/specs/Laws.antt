-- The law of what answers the lines: a line counts as what is kept of it. It stands here, proof and all, since an impl's law cites specs/ alone.
use Rattle.std.specs.Prelude.{ℕ, ◌≡◌, List, [], ◌∷◌, refl}
use Rattle.std.proofs.Common.{ap}
use Rattle.octets.specs.Test.{first, refusing}
use Rattle.hexadecimal.specs.Line.{unhex}
use Rattle.call_spec.specs.Calls.{performed}
use Rattle.call_spec.specs.Claim.{Lent}
use Rattle.lent_record.specs.Record.{format, record_questions}
use Rattle.lent_record.specs.Told.{lent_after}
use Rattle.line_answer.specs.Line.{line_call, ready_outcome, line_outcome}
use Rattle.line_answer.specs.Text.{text}
use Rattle.line_split.specs.Split.{cut}
use Rattle.line_split.proofs.Long.{asks-cut}
use Rattle.line_io.specs.Answering.{Cuts}
use Rattle.line_run.specs.Ends.{one_end}

asks_alike : (rec page l : List ℕ) → ready_outcome rec page (cut l) ≡ ready_outcome rec page l
unfolding ready_outcome cut
asks_alike rec page [] = refl
asks_alike rec page (c ∷ l) = asks-cut [] tt (λ (x : List ℕ). performed format rec page (line_call (unhex x))) (c ∷ l)

same : (r : Lent) (l : List ℕ) → line_outcome r.rec r.page (cut l) ≡ line_outcome r.rec r.page l
unfolding line_outcome
same r l = ap (refusing (first (record_questions r.rec r.page))) (asks_alike r.rec r.page l)

pub cuts : Cuts one_end
cuts = record { next = λ r l. ap (lent_after r) (same r l); says = λ r l. ap (text r.rec) (same r l) }
