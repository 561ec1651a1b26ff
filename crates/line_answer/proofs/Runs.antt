-- Lines at a record that holds a sound endpoint, and its page: each leaves such a record and such a page, and an empty one the very same.
use Prim.Native.Nat.{ℕ, zero, suc}
use mathlib.Core.Path.{◌≡◌, refl, sym, ap, subst, ◌∙◌}
use mathlib.Core.List.{List, [], ◌∷◌}
use Rattle.octets.specs.Test.{first, Outcome, refusing, mapped}
use Rattle.octets.specs.Octets.{left}
use Rattle.octets.proofs.Test.{all_yes}
use Rattle.hexadecimal.specs.Line.{unhex, line_questions}
use Rattle.hexadecimal.proofs.Digits.{unhex_octets}
use Rattle.page.specs.Page.{new_page}
use Rattle.protocol.specs.Endpoint.{Endpoint, fresh}
use Rattle.protocol.specs.Table.{Step}
use Rattle.call_spec.specs.Calls.{performed, record_after, page_after}
use Rattle.call_spec.specs.Claim.{Lent, lent}
use Rattle.call_spec.specs.Holding.{Holding}
use Rattle.lent_record.specs.Record.{format, record_questions}
use Rattle.lent_record.specs.Told.{fresh_record, lent_after}
use Rattle.lent_record.proofs.Holds.{fresh-holding, is_ready}
use Rattle.link.proofs.Stays.{in_octets, goes_on}
use Rattle.lent_record.proofs.Standing.{stands_still}
use Rattle.line_answer.specs.Line.{line_call, ready_outcome, line_outcome}
use Rattle.line_answer.proofs.Lines.{asks-standing, asked_of, page_still}

abbrev pub Holds : Lent → Type 0
Holds r = (e : Endpoint) × Holding format r.rec r.page e

pub fresh_holds : Holds (lent fresh_record new_page)
fresh_holds = (fresh, fresh-holding)

module _ {r : Lent} (k : Holds r) where
  pub stays_put : lent_after r (line_outcome r.rec r.page []) ≡ r
  stays_put =
      let y = is_ready k.1 in
      let e = asks-standing r.rec r.page [] y refl in
      let p = ap (record_after format r.rec) e ∙ stands_still k.1 in
      let q = ap (page_after r.page) e ∙ page_still r.rec r.page (asked_of r.rec r.page y).goes in
      λ i. record { rec = p i; page = q i }

  -- questions that come first
  behind : (n : ℕ) (o : Outcome Step) → (n ≡ 0 → Holds (lent_after r o)) → Holds (lent_after r (refusing n o))
  unfolding refusing record_after page_after mapped left
  behind zero o h = h refl
  behind (suc n) o h = k

  pub line-leaves : (line : List ℕ) → Holds (lent_after r (line_outcome r.rec r.page line))
  unfolding line_outcome ready_outcome
  line-leaves [] = subst Holds (sym stays_put) k
  line-leaves (c ∷ line) =
      let l = c ∷ line in
      let x = line_call (unhex l) in
      behind (first (record_questions r.rec r.page)) _
      (λ y. behind (first (line_questions l)) _
      (λ h. (_, goes_on _ _ _ k.1 x (in_octets x.call x.octets (unhex_octets l (all_yes 2 _ _ (all_yes 1 _ _ h tt).1 tt).0)) (performed format r.rec r.page x) refl)))
