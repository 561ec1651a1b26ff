use Prim.Native.Nat.{ℕ, ◌+◌, ◌≤◌}
use mathlib.Core.Path.{◌≡◌, sym, ◌∙◌}
use mathlib.Core.Logic.{◌⊎◌, ⊎_elim}
use mathlib.Core.List.{List}
use lib.ListN.{length}
use Rattle.std.proofs.lemmas.Result.{err_from_is_err_and}
use Rattle.octets.specs.Test.{first, mapped}
use Rattle.octets.proofs.Test.{all_yes}
use Rattle.frame.specs.Layout.{numbers_size, control_numbers}
use Rattle.frame.specs.Read.{size_questions}
use Rattle.frame.specs.Answer.{kind_number}
use Rattle.frame.specs.Frame.{DATA}
use Rattle.frame.specs.declared.Kind.{Kind}
use Rattle.frame.specs.declared.Kind.TheVariants.{Data, Ack}
use Rattle.frame.proofs.Classes.{kind_is_frame}
use Rattle.frame.proofs.Shape.{Numbered, numbered, control_of}
use Rattle.octets.proofs.Outcomes.{refusal_some}
use Rattle.frame.proofs.Reading.{frame_refused, frame-numbers, numbers_there}
use native.Mathlib.Omega.{arith}
use Rattle.frame_read.proofs.known_frame.Goals as goal

-- questions 4 to 6 are passed, so the numbers are there
there : (k : Kind) (r : List ℕ) → 0 ≡ first (size_questions (kind_number k) r) → numbers_size (kind_number k) ≤ length r
there k r h = numbers_there (kind_number k) (length r) (all_yes 4 _ _ (sym h) tt).0

pub returns-in_err-frame_refusal : goal.returns-in_err-frame_refusal
unfolding mapped
returns-in_err-frame_refusal c =
    let p = err_from_is_err_and c.from_residual.result c.from_residual.ensures.1 in
    let k = c.args.kind in
    rw (p.1, p.2) (frame_refused (kind_number k) c.args.rest.now (kind_is_frame k) (rw c.in_err-frame_refusal.was at c.frame_refusal.ensures) (refusal_some _))

-- the number of a DATA or the count of an ACK, which is there
at_least : (k : Kind) → (k ≡ Data) ⊎ (k ≡ Ack) → DATA ≤ kind_number k
at_least k e = ⊎_elim (λ d. rw d (omega arith)) (λ a. rw a (omega arith)) e

module _ (k : Kind) (r : List ℕ) where
  says : Numbered r (kind_number k)
  says = numbered r (kind_number k) (kind_is_frame k)

  third : DATA ≤ kind_number k → 0 ≡ first (size_questions (kind_number k) r) → control_numbers + 4 ≤ length r
  third d h = omega (arith, says.three d, there k r h)

pub load32-requires : goal.load32-requires
load32-requires c = third c.args.kind c.args.rest.now (at_least c.args.kind c.in-Data.is) (rw c.in_ok-frame_refusal.was at c.frame_refusal.ensures)

pub frame_of-requires : goal.frame_of-requires
frame_of-requires c =
    let k = c.args.kind in
    (there k c.args.rest.now (rw c.in_ok-frame_refusal.was at c.frame_refusal.ensures), c.load32.ensures ∙ sym ((says k c.args.rest.now).number (at_least k c.in-Data.is)))

pub frame_of-requires-in_default : goal.frame_of-requires-in_default
frame_of-requires-in_default c =
    let k = c.args.kind in
    (there k c.args.rest.now (rw c.in_ok-frame_refusal.was at c.frame_refusal.ensures), sym ((says k c.args.rest.now).none (control_of k c.in_default.not-Data c.in_default.not-Ack).0))

pub returns-in-Data : goal.returns-in-Data
returns-in-Data c =
    let k = c.args.kind in
    c.frame_of.ensures ∙ sym (frame-numbers (kind_number k) c.args.rest.now (kind_is_frame k) (sym (rw c.in_ok-frame_refusal.was at c.frame_refusal.ensures)))

pub returns-in_default : goal.returns-in_default
returns-in_default c =
    let k = c.args.kind in
    c.frame_of-in_default.ensures ∙ sym (frame-numbers (kind_number k) c.args.rest.now (kind_is_frame k) (sym (rw c.in_ok-frame_refusal.was at c.frame_refusal.ensures)))
