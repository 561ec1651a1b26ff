-- What answers a line at one end, and the program's theorem.
use Prim.Native.Nat.{ℕ}
use mathlib.Core.Path.{◌≡◌, refl, ap, ◌∙◌}
use mathlib.Core.List.{List, [], ◌∷◌}
use Rattle.hexadecimal.specs.Line.{normal}
use Rattle.hexadecimal.proofs.Normal.{asked_alike, unhex-normal}
use Rattle.call_spec.specs.Claim.{Lent}
use Rattle.answer_text.specs.Text.{answer_room}
use Rattle.lent_record.specs.Told.{lent_after, fresh_end}
use Rattle.line_answer.specs.Line.{ready_outcome, line_outcome}
use Rattle.line_answer.specs.Text.{text}
use Rattle.line_answer.proofs.Runs.{Holds, fresh_holds, stays_put, line-leaves}
use Rattle.line_io.specs.Answering.{state_after}
use Rattle.line_io.proofs.Answers.{input_normal}
use Rattle.line_io.proofs.Program.{program-run}
use Rattle.line_io.specs.Claim.{WholeText, EitherCase}
use Rattle.line_run.specs.Ends.{one_end, others, LeftOut}
use Rattle.line_run.specs.Laws.{cuts}

-- A line counts as its normal form, so an input is answered in either case with the same text.
either_case : (r : Lent) (l : List ℕ) → line_outcome r.rec r.page (normal l) ≡ line_outcome r.rec r.page l
unfolding line_outcome ready_outcome
either_case r [] = refl
either_case r (c ∷ l) = rw (asked_alike (c ∷ l), unhex-normal (c ∷ l)) refl

pub either_case_text : EitherCase one_end fresh_end
either_case_text = input_normal one_end (λ r l. ap (lent_after r) (either_case r l)) (λ r l. ap (text r.rec) (either_case r l)) fresh_end

-- The record and the page after lines are those after them without the empty ones,
after-others : {r : Lent} → Holds r → (ls : List (List ℕ)) → state_after one_end r ls ≡ state_after one_end r (others ls)
unfolding state_after others
after-others k [] = refl
after-others {r} k ([] ∷ ls) = ap (λ (x : Lent). state_after one_end x ls) (stays_put k) ∙ after-others k ls
after-others {r = r} k ((c ∷ l) ∷ ls) = after-others {r = lent_after r (line_outcome r.rec r.page (c ∷ l))} (line-leaves k (c ∷ l)) ls

-- so each line of an input is answered as if the empty ones before it were left out (document 02, N5).
pub left_out : LeftOut
left_out ls l = ap (λ (r : Lent). one_end.says r l) (after-others fresh_holds ls)

-- THE theorem, of the program
pub whole : WholeText one_end answer_room fresh_end
whole = program-run cuts
