-- Every accepted call of a sound record leaves a sound record, and a page that goes with it, in octets too.
use mathlib.Core.Path.{refl, sym, ap, subst, ◌∙◌}
use mathlib.Core.List.{List, [], ◌∷◌}
use Prim.Native.Nat.{ℕ}
use native.Mathlib.Omega.{arith}
use borrow.Author.Tests.{leb-true}
use lib.ListN.{length}
use Rattle.octets.specs.Test.{first, Outcome, refused, ok, number_of}
use Rattle.octets.specs.Octets.{Octets}
use Rattle.octets.proofs.Test.{passing, all_yes}
use Rattle.page.proofs.Laws.{stays, goes_so}
use Rattle.protocol.specs.History.{perform, endpoint_left}
use Rattle.protocol.specs.Table.{Step}
use Rattle.protocol.specs.Limits.{LeavesSound, LeavesBounded}
use Rattle.protocol.proofs.Calls.{Next, same_number, next_on}
use Rattle.protocol.proofs.Limits.{call_sound, call_bounded}
use Rattle.endpoint.specs.Record.{record_size}
use Rattle.endpoint_plan.proofs.Ready as ready
use Rattle.endpoint_plan.proofs.Numbers.{receive-local}
use Rattle.endpoint_plan.proofs.Laws.{accepts}
use Rattle.call_spec.specs.declared.Call.{Call}
use Rattle.call_spec.specs.declared.Call.TheVariants.{Request, Receive}
use Rattle.call_spec.specs.Calls.{InOctets, given, own_questions, asked, performed, page_after}
use Rattle.call_spec.proofs.Holding.{keeps, passes-both, leaves}
use Rattle.lent_record.specs.Record.{format}
use Rattle.lent_record.proofs.Lawful.{lawful}
use Rattle.lent_record.proofs.Holds.{record_holding}
use Rattle.link.specs.Claim.{GoesOn, StaysSound, ReceivingStays}

pub in_octets : (c : Call) (s : List ℕ) → Octets s → InOctets c s
in_octets Request s o = tt
in_octets Receive s o = o

-- a record that holds a sound endpoint goes on holding one, whatever calls come
pub goes_on : GoesOn
unfolding performed
goes_on rec page e k c i (refused n) h = leaves format lawful k (refused n) tt tt (same_number refl)
goes_on rec page e k c i (ok x) h =
    let a = accepts (format.sound rec) page (format.holds rec) c i (passing (first ((11, _) ∷ [])) h).1 in
    let p = ap (perform a.call) (sym (keeps format lawful k)) ∙ a.performs in
    leaves format lawful k (ok x)
    (subst LeavesSound p (call_sound a.call e k.is_sound a.readable))
    (subst LeavesBounded p (call_bounded a.call e k.is_sound k.bounded a.readable))
    (subst (λ (o : Outcome Step). Next e (endpoint_left e o)) p (next_on a.call e))

-- Receiving leaves the page: no number is begun, and the one at hand is reserved.
pub receive_stays : ReceivingStays
unfolding performed asked number_of page_after
receive_stays rec page s r (refused n) h = refl
receive_stays rec page s r (ok x) h =
    let c = given Receive s r in
    let k = (passing (first ((11, _) ∷ [])) h).1 in
    let q = ready.passes (format.sound rec) page (format.holds rec) c (ap number_of k) in
    let l = receive-local (format.holds rec) s (passing (first (own_questions (format.sound rec) (format.holds rec).local page c)) k).1 in
    stays x.endpoint.local page (omega (arith, l, (goes_so (format.holds rec).local page q.goes).1))

-- what an accepted call leaves passes 12 and 15
pub stays_sound : StaysSound
unfolding performed number_of
stays_sound rec page o c i x h =
    let r = passing (first ((11, _) ∷ [])) h in
    let l = leb-true record_size (length rec) (all_yes 11 _ _ r.0 tt).0 in
    let q = ready.passes (format.sound rec) page (format.holds rec) c (ap number_of r.1) in
    passes-both format lawful (goes_on rec page _ (record_holding rec page l o q.is_fine q.page_long q.goes) c i (ok x) h)
