-- A struct does as the octets of the endpoint that it holds, so demand 3 holds of lists of calls and restarts on structs.
use Prim.Native.Nat.{ℕ, ◌≤◌}
use mathlib.Core.Path.{◌≡◌, refl, sym, ap, ◌∙◌}
use mathlib.Core.Logic.{inl}
use mathlib.Core.Bool.{true}
use mathlib.Core.List.{List, [], ◌++◌}
use native.Mathlib.Omega.{arith}
use borrow.Author.Tests.{le-leb}
use lib.ListN.{length, length-append}
use Rattle.octets.specs.Test.{Outcome, refused, ok, refusing, first, when}
use Rattle.protocol.specs.Endpoint as abstract
use Rattle.protocol.specs.Table.{Step}
use Rattle.protocol.specs.History.{History, now}
use Rattle.protocol.specs.History as protocol
use Rattle.protocol.specs.World.{End, called}
use Rattle.protocol.specs.Claim.{NoEndAlone, NoNumberTwice}
use Rattle.protocol.specs.Limits.{Bounded, Sized}
use Rattle.protocol.proofs.World.{asking, Asks, Simulates, no_end_alone}
use Rattle.protocol.proofs.Theorem.{Roomy, roomy, limited}
use Rattle.protocol.proofs.Theorem as protocol-theorem
use Rattle.call_spec.specs.Calls.{Arguments, said, asked, restarting, performed, restarted_in, page_after}
use Rattle.call_spec.specs.Claim.{Lent, cut_says, renewed}
use Rattle.call_spec.specs.Claim as calls
use Rattle.call_spec.specs.Holding.{GoesWith}
use Rattle.call_spec.proofs.Lift.{LiesIn, comes, lies}
use Rattle.endpoint.specs.declared.Endpoint.{Endpoint}
use Rattle.endpoint.specs.View.{pack}
use Rattle.endpoint.specs.Sound.{sound}
use Rattle.endpoint.specs.Record.{record_size, encode}
use Rattle.endpoint.proofs.Held.{held, pack-sound}
use Rattle.endpoint_step.specs.declared.StepAnswer.{StepAnswer}
use Rattle.endpoint_plan.specs.Calls.{outcome_of}
use Rattle.endpoint_step.specs.Calls.{step_answer_of, Advances}
use Rattle.lent_record.specs.Record.{format}
use Rattle.lent_record.specs.Record as link
use Rattle.lent_record.proofs.Lawful.{lawful}
use Rattle.host.specs.Hosts.{Held, paged, HostAct, call, restart, cut, HostDue, page_left, ends, AsInOctets, RestartsAsInOctets}

-- the octets of a sound endpoint are long enough for a record
long : (e : abstract.Endpoint) (rest : List ℕ) → abstract.sound e ≡ true → Bounded e → record_size ≤ length (encode (pack e) ++ rest)
long e rest s b = omega (arith, length-append (encode (pack e)) rest, lawful.long e s b)

-- a call on the struct of a sound endpoint comes to what the call on its octets comes to, with the same page
pub alike : AsInOctets
unfolding performed refusing first when outcome_of
alike e rest page s b c =
    rw (le-leb record_size (length (encode (pack e) ++ rest)) (long e rest s b))
    (ap (λ t. asked t page (format.holds (encode (pack e) ++ rest)) c) (lawful.passes e rest s b ∙ sym (pack-sound e s))
    ∙ ap (λ z. asked (sound (pack e)) page z c) (lawful.keeps e rest s b ∙ sym (held e s)))

-- and so does a restart, in a buffer that is long enough
pub alike_restarts : RestartsAsInOctets
unfolding restarted_in refusing first when
alike_restarts rec page l = rw (le-leb record_size (length rec) l) refl

-- what `advance` leaves of the struct that it is lent, and of the page, is what a call of a list leaves
pub lent : (x : End Held) (c : Arguments) {out up page' out' up' : List ℕ} {r : StepAnswer} {e : Endpoint} → Advances x.rec.endpoint x.rec.page c out up page' out' up' r
    → e ≡ r.endpoint → paged e page' ≡ (called ends (call c) x).rec
unfolding called page_left
lent x c a k =
    let p = k ∙ ap (λ (r : StepAnswer). r.endpoint) a.answer in
    λ i. paged (p i) (a.page_octets i)

-- and what `endpoint_step::restart` answers, beside the page that it only reads, is what a restart leaves
pub restarts : (x : End Held) {r : StepAnswer} → r ≡ step_answer_of x.rec.endpoint (restarting x.rec.page)
    → paged r.endpoint x.rec.page ≡ (called ends restart x).rec
unfolding called page_left
restarts x a = ap (λ (r : StepAnswer). paged r.endpoint x.rec.page) a

-- a struct that holds an endpoint, beside the page that goes with its number
abbrev Packs : Held → abstract.Endpoint → Type 0
Packs r e = (r.endpoint ≡ pack e) × GoesWith r.page e

module _ {a b : History} (i : Roomy a b) (r : Held) (k : Packs r (now a)) where
  -- its octets, which lie as those of an end that lends them
  abbrev rec : List ℕ
  rec = encode (pack (now a)) ++ []

  abbrev octets : Lent
  octets = calls.lent rec r.page

  lying : LiesIn format octets (now a)
  lying = (([], refl), k.1)

  -- what is done to the struct, done to its octets: a restart writes over them
  abbrev on_octets : HostAct → calls.LentAct
  on_octets (call c) = calls.call c
  on_octets restart = calls.restart rec
  on_octets (cut c) = calls.cut c rec

  enough : record_size ≤ length rec
  enough = long (now a) [] (limited i).is_sound (limited i).bounded

  due : (c : HostAct) → HostDue b c → calls.LentDue format b (on_octets c)
  due (call c) d = d
  due restart d = tt
  due (cut c) d = enough

  as-octets : (c : Arguments) → outcome_of r.endpoint r.page c ≡ performed format rec r.page c
  as-octets c = ap (λ (e : Endpoint). outcome_of e r.page c) k.0 ∙ sym (alike (now a) [] r.page (limited i).is_sound (limited i).bounded c)

  as-restart : (page : List ℕ) → restarting page ≡ restarted_in format rec page
  as-restart page = sym (alike_restarts rec page enough)

  same-said : (c : HostAct) → ends.said r c ≡ (link.ends).said octets (on_octets c)
  same-said (call c) = refl
  same-said restart = refl
  same-said (cut c) = ap (λ (o : Outcome Step). ok (cut_says (said c) o)) (as-octets c)

  same-comes : (c : HostAct) → ends.comes r c ≡ (link.ends).comes octets (on_octets c)
  same-comes (call c) = as-octets c
  same-comes restart = as-restart r.page
  same-comes (cut c) = ap (λ (o : Outcome Step). restarting (page_after r.page o)) (as-octets c) ∙ as-restart _

  same-page : (c : HostAct) (x : Step) → page_left r c (ok x) ≡ ((link.ends).leaves octets (on_octets c) (ok x)).page
  unfolding page_left renewed
  same-page (call c) x = refl
  same-page restart x = refl
  same-page (cut c) x = ap (page_after r.page) (as-octets c)

  -- so the struct does as they do
  fair : (c : HostAct) → HostDue b c → (q : protocol.Act) → ends.said r c ≡ ok q → Sized b q
  fair c d q e = (lies format lawful).fair a b i octets lying (on_octets c) (due c d) q (sym (same-said c) ∙ e)

  asks : (c : HostAct) → Asks ends r c (now a)
  asks c =
      let t = comes format lawful i octets lying (on_octets c) in
      (t.0, same-comes c ∙ t.1 ∙ ap (λ (s : Outcome protocol.Act). asking t.0 s (now a)) (sym (same-said c)))

  accepts : (g : History) → Roomy g b → (c : HostAct) (q : protocol.Act) → ends.said r c ≡ ok q
      → (x : Step) → ends.comes r c ≡ ok x → now g ≡ x.endpoint → Packs (ends.leaves r c (ok x)) (now g)
  unfolding step_answer_of
  accepts g j c q s x h e =
      let p = ((lies format lawful).accepts a b g i j octets lying (on_octets c) q (sym (same-said c) ∙ s) x (sym (same-comes c) ∙ h) e).1 in
      (ap pack (sym e), (p.0, same-page c x ∙ p.1))

-- a refusal leaves both
refuses : (r : Held) (e : abstract.Endpoint) → Packs r e → (c : HostAct) (n : ℕ) → Packs (ends.leaves r c (refused n)) e
unfolding step_answer_of page_left page_after
refuses r e k (call c) n = k
refuses r e k restart n = k
refuses r e k (cut c) n = k

packs : Simulates ends Roomy Sized Packs
packs =
    record {
      starts = λ r f. f;
      fair = λ a b i r k. fair i r k;
      comes = λ a b i r k c. inl (asks i r k c);
      refuses = refuses;
      accepts = λ a b g i j r k. accepts i r k g j;
    }

-- no host's end opens without its partner
pub no_host_alone : NoEndAlone ends ends
no_host_alone = no_end_alone ends ends roomy packs packs

-- nor uses a number twice
pub no_number_twice : NoNumberTwice ends ends
no_number_twice = protocol-theorem.no_number_twice ends ends packs packs
