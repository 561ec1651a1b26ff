-- No end that is asked by lines opens without its partner, and none uses a number twice.
use Prim.Native.Nat.{ℕ, zero, suc}
use mathlib.Core.Path.{◌≡◌, refl, sym, subst}
use mathlib.Core.Logic.{◌⊎◌, inl, inr}
use mathlib.Core.List.{List, [], ◌∷◌}
use native.Mathlib.Omega.{arith}
use Rattle.octets.specs.Test.{first, Outcome, ok, refusing, and_then}
use Rattle.octets.proofs.Test.{passing}
use Rattle.hexadecimal.specs.Line.{unhex, line_questions}
use Rattle.hexadecimal.proofs.Asked.{none_refused}
use Rattle.protocol.specs.Endpoint.{Endpoint}
use Rattle.protocol.specs.Table.{Step}
use Rattle.protocol.specs.History.{Act, History, now, recorded}
use Rattle.protocol.specs.World.{called}
use Rattle.protocol.specs.Claim.{NoEndAlone, NoNumberTwice}
use Rattle.protocol.specs.Limits.{Sized}
use Rattle.protocol.proofs.World.{asking, Asks, Idle, Simulates, no_end_alone}
use Rattle.protocol.proofs.Theorem.{Roomy, roomy}
use Rattle.protocol.proofs.Theorem as protocol
use Rattle.call_spec.specs.Claim.{Lent, call}
use Rattle.call_spec.proofs.Lift.{LiesIn, list_holding, asks, lies}
use Rattle.lent_record.specs.Record.{format, record_questions}
use Rattle.lent_record.specs.Record as link
use Rattle.lent_record.specs.Told.{lent_after}
use Rattle.lent_record.proofs.Lawful.{lawful}
use Rattle.line_answer.specs.Line.{line_call, ready_outcome, line_outcome}
use Rattle.line_answer.specs.Claim.{said_in, ends, NoTrace}
use Rattle.line_answer.proofs.Runs.{stays_put}

-- how an end stands leaves no trace in the history
pub no_trace : NoTrace
unfolding called said_in recorded refusing
no_trace x = rw none_refused refl

-- questions before 1 and 2, and those of the call behind them
through : (k l n : ℕ) (q : Outcome Act) (e : Endpoint) → (m : ℕ) × (refusing k (refusing l (asking n q e)) ≡ asking m (refusing l q) e)
unfolding refusing and_then
through (suc k) l n q e = (suc k, refl)
through zero zero n q e = (n, refl)
through zero (suc l) n q e = (zero, refl)

abbrev calls : Simulates link.ends Roomy Sized (LiesIn format)
calls = lies format lawful

module _ (a b : History) (i : Roomy a b) (r : Lent) (k : LiesIn format r (now a)) where
  -- an empty line says no call, and the end stands as it stood
  standing : LiesIn format (lent_after r (line_outcome r.rec r.page [])) (now a)
  standing = subst (λ (x : Lent). LiesIn format x (now a)) (sym (stays_put (now a, list_holding i k.0 k.1))) k

  idle : Idle ends (LiesIn format) r [] (now a)
  unfolding said_in refusing
  idle = record { number = 1; none = rw none_refused refl; leaves = standing }

  does : (line : List ℕ) → Asks ends r line (now a) ⊎ Idle ends (LiesIn format) r line (now a)
  unfolding line_outcome ready_outcome said_in
  does [] = inr idle
  does (c ∷ line) =
      let x = line_call (unhex (c ∷ line)) in
      let s = asks format lawful a b i r k x in
      inl (rw s.1 (through (first (record_questions r.rec r.page)) (first (line_questions (c ∷ line))) s.0 ((link.ends).said r (call x)) (now a)))

  -- an accepted line that says a call leaves what the call leaves
  accepts : (g : History) → Roomy g b → (line : List ℕ) (q : Act) → said_in line ≡ ok q
      → (x : Step) → ends.comes r line ≡ ok x → now g ≡ x.endpoint → LiesIn format (lent_after r (ok x)) (now g)
  unfolding line_outcome ready_outcome said_in
  accepts g j [] q s x h e = absurd (let z : ◌≡◌ {A = ℕ} 0 1 = cc idle.none in omega arith)
  accepts g j (c ∷ line) q s x h e =
      let p = passing (first (line_questions (c ∷ line))) (passing (first (record_questions r.rec r.page)) h).1 in
      calls.accepts a b g i j r k (call (line_call (unhex (c ∷ line)))) q (passing (first (line_questions (c ∷ line))) s).1 x p.1 e

lines : Simulates ends Roomy Sized (LiesIn format)
unfolding said_in
lines =
    record {
      starts = calls.starts;
      fair = λ a b i r k line d q e. let z = passing (first (line_questions line)) e in calls.fair a b i r k (call (line_call (unhex line))) (d z.0) q z.1;
      comes = does;
      refuses = λ r e k line. calls.refuses r e k (call (line_call line));
      accepts = λ a b g i j r k. accepts a b i r k g j;
    }

-- whatever lines come at two fresh ends, in whatever order
pub no_line_alone : NoEndAlone ends ends
no_line_alone = no_end_alone ends ends roomy lines lines

-- no number is used twice
pub no_number_twice : NoNumberTwice ends ends
no_number_twice = protocol.no_number_twice ends ends lines lines
