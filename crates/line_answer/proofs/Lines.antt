-- What a line comes to, from what its reading answers.
use Prim.Native.Nat.{ℕ, ◌≤◌}
use mathlib.Core.Path.{◌≡◌, refl, sym, ap, ◌∙◌}
use mathlib.Core.Logic.{◌≢◌}
use mathlib.Core.Bool.{true}
use mathlib.Core.List.{List, [], ◌∷◌}
use native.Mathlib.Omega.{arith}
use borrow.Author.Tests.{leb-true}
use lib.ListN.{length}
use Rattle.octets.specs.Sizes.{page_size, longest_frame}
use Rattle.octets.specs.Test.{first, Outcome, refused, ok, refusing, mapped}
use Rattle.octets.proofs.Test.{all_yes, refusing_of}
use Rattle.hexadecimal.specs.Line.{unhex, line_questions, read_into}
use Rattle.hexadecimal.proofs.Asked.{none_refused, turned_away}
use Rattle.page.proofs.Laws.{goes_so, stays}
use Rattle.protocol.specs.Table.{Step}
use Rattle.call_spec.specs.Calls.{performed, page_after}
use Rattle.lent_record.specs.Record.{format, paged_for, record_questions}
use Rattle.lent_record.specs.Told.{stands}
use Rattle.line_answer.specs.Line.{line_call, ready_outcome, line_outcome}

-- what a line makes that has a character, as one has that passes 1 and 2
makes_call : (rec page line : List ℕ) → length line ≢ 0
    → ready_outcome rec page line ≡ refusing (first (line_questions line)) (performed format rec page (line_call (unhex line)))
unfolding ready_outcome
makes_call rec page [] h = absurd (h refl)
makes_call rec page (c ∷ line) h = refl

has_some : (line : List ℕ) → first (line_questions line) ≡ 0 → length line ≢ 0
has_some [] h = absurd (omega (arith, h, none_refused))
has_some (c ∷ line) h = λ z. omega arith

-- and what one makes that has none
asks_none : (rec page line : List ℕ) → length line ≡ 0 → ready_outcome rec page line ≡ ok (stands rec)
unfolding ready_outcome
asks_none rec page [] h = refl
asks_none rec page (c ∷ line) h = absurd (omega arith)

module _ (rec page line : List ℕ) where
  abbrev comes : Outcome Step
  comes = performed format rec page (line_call (unhex line))

  -- 11, 12 and 15 of the record and its page come first
  pub unready : {n : ℕ} → n ≡ first (record_questions rec page) → n ≢ 0 → line_outcome rec page line ≡ refused n
  unfolding line_outcome
  unready {n} e h = rw (sym e) (refusing_of (ready_outcome rec page line) n h)

  module _ (y : first (record_questions rec page) ≡ 0) where
    next : line_outcome rec page line ≡ ready_outcome rec page line
    unfolding line_outcome refusing
    next = ap (λ (m : ℕ). refusing m (ready_outcome rec page line)) y

    -- a line of no characters asks how the end stands
    pub asks-standing : length line ≡ 0 → line_outcome rec page line ≡ ok (stands rec)
    asks-standing z = next ∙ asks_none rec page line z

    -- every other is asked 1 and 2
    pub line-asks : first (line_questions line) ≡ 0 → line_outcome rec page line ≡ comes
    unfolding refusing
    line-asks h = next ∙ makes_call rec page line (has_some line h) ∙ ap (λ (m : ℕ). refusing m comes) h

    pub declined : length line ≢ 0 → (d : List ℕ) → length d ≡ longest_frame → {n : ℕ} → mapped length (read_into line d) ≡ refused n → line_outcome rec page line ≡ refused n
    unfolding refusing
    declined z d l {n} h =
        let q = turned_away line d l n h in
        next ∙ makes_call rec page line z ∙ ap (λ (m : ℕ). refusing m comes) q.1 ∙ ap refused (sym q.2)

-- what 11, 12 and 15 ask of a record and its page holds
pub record Asked (rec page : List ℕ) : Type 0 where
  pub long : format.size ≤ length rec
  pub page_long : page_size ≤ length page
  pub is_sound : format.sound rec ≡ true
  pub goes : paged_for rec page ≡ true

pub asked_of : (rec page : List ℕ) → first (record_questions rec page) ≡ 0 → Asked rec page
asked_of rec page h =
    let a = all_yes 11 _ _ h tt in
    let b = all_yes 11 _ _ a.1 tt in
    let c = all_yes 12 _ _ b.1 tt in
    record {
      long = leb-true format.size (length rec) a.0;
      page_long = leb-true page_size (length page) b.0;
      is_sound = c.0;
      goes = (all_yes 15 _ _ c.1 tt).0;
    }

-- where 15 is passed, nothing is left to reserve for how an end stands
pub page_still : (rec page : List ℕ) → paged_for rec page ≡ true → page_after page (ok (stands rec)) ≡ page
unfolding page_after
page_still rec page h = stays (format.holds rec).local page (omega (arith, (goes_so (format.holds rec).local page h).1))
