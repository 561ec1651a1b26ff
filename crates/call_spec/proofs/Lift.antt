-- Demand 3 about the calls in octets, from demand 3 of the protocol and the laws of the codec and of the page.
use Prim.Native.Nat.{ℕ, zero, suc, ◌+◌, ◌≤◌}
use mathlib.Core.Path.{◌≡◌, refl, sym, ap, subst, ◌∙◌}
use mathlib.Core.Bool.{true}
use mathlib.Core.List.{List, [], ◌∷◌, ◌++◌, map, Memᴰ}
use mathlib.Core.Logic.{inl, ⊎_elim}
use native.Mathlib.Omega.{arith}
use lib.ListN.{length, drop, length-append}
use borrow.Author.Tests.{le-leb}
use lib.Dec.{leb}
use Rattle.octets.specs.Sizes.{page_size, last_incarnation}
use Rattle.octets.specs.Test.{when, first, Outcome, refused, ok, refusing, mapped, and_then}
use Rattle.octets.specs.Octets.{put, left}
use Rattle.octets.proofs.Test.{in_range_lem, joined, passing}
use Rattle.page.specs.Page.{used_for, runs, count, reserving, page_of}
use Rattle.page.proofs.Laws.{page_long, page-runs, page-count}
use Rattle.frame.specs.Frame.{Frame, Request, connect, listen, end_listening, close, timer, collect, send}
use Rattle.frame.specs.Fits.{Fits}
use Rattle.frame.specs.Layout.{encode}
use Rattle.frame.specs.Read.{read_frame, read_request}
use Rattle.frame.proofs.RoundTrip.{written_reads}
use Rattle.frame.proofs.Blocks.{send_sized}
use Rattle.protocol.specs.Endpoint.{Endpoint, sized}
use Rattle.protocol.specs.Table.{none, Step, quiet}
use Rattle.protocol.specs.Restart.{restarted, after_restart}
use Rattle.protocol.specs.History.{History, now, sent, endpoint_left}
use Rattle.protocol.specs.History as protocol
use Rattle.protocol.specs.Claim.{block_sent, NoEndAlone, NoNumberTwice}
use Rattle.protocol.specs.Limits.{Sized}
use Rattle.protocol.proofs.Calls.{Next, next_on}
use Rattle.protocol.proofs.World.{Asks, Simulates, kept, no_end_alone}
use Rattle.protocol.proofs.Theorem.{Roomy, roomy, limited}
use Rattle.protocol.proofs.Theorem as protocol-theorem
use Rattle.call_spec.specs.declared.Call.{Call}
use Rattle.call_spec.specs.declared.Call.TheVariants as which
use Rattle.call_spec.specs.Calls.{Arguments, reads, said, does, asked, restarting, Format, performed, restarted_in, record_after, page_after}
use Rattle.call_spec.specs.Claim.{Lent, lent, LentAct, call, restart, cut, DueOctets, LentDue, cut_says, renewed, ends, NeverRefused, Lawful}
use Rattle.call_spec.specs.Holding.{Lies, GoesWith, Holding}
use Rattle.call_spec.proofs.Holding.{stored, keeps, passes-both, written}

-- a frame whose octets are among those sent
among : (s : List ℕ) (fs : List Frame) → Memᴰ s (map encode fs) → (f : Frame) × Memᴰ f fs × (s ≡ encode f)
among s [] m = absurd (mathlib.Core.List.Memᴰ.not-nil m)
among s (f ∷ fs) m =
    ⊎_elim
    (λ (e : s ≡ encode f). (f, mathlib.Core.List.Memᴰ.head refl, e))
    (λ (t : Memᴰ s (map encode fs)). let r = among s fs t in (r.0, mathlib.Core.List.Memᴰ.tail r.1, r.2))
    (mathlib.Core.List.Memᴰ.cases_cons m)

-- the block of a request that is read has 1 to 64 octets
pub read_sized : (s : List ℕ) (q : Request) → read_request s ≡ ok q → sized (block_sent (protocol.ask q)) ≡ true
unfolding sized
read_sized s connect h = refl
read_sized s listen h = refl
read_sized s end_listening h = refl
read_sized s close h = refl
read_sized s timer h = refl
read_sized s collect h = refl
read_sized s (send b) h = let z = send_sized s h in joined (in_range_lem 1 64 (length b) z.0 z.1) refl

-- a value that was made of another
pub of_mapped : {A B : Type 0} (f : A → B) (o : Outcome A) (y : B) → mapped f o ≡ ok y → (x : A) × (o ≡ ok x) × (y ≡ f x)
unfolding mapped
of_mapped f (refused n) y h = absurd (let z : ◌≡◌ {A = ℕ} 0 1 = cc in omega arith)
of_mapped f (ok x) y h = (x, refl, (cc))

-- what the octets of a call that is due say: a call of the protocol that is due, with a block of 1 to 64 octets if it sends one
said_fair : (other : History) → ((g : Frame) → Memᴰ g (sent other) → Fits g) → (c : Call) (s : List ℕ) → DueOctets other c s
    → (q : protocol.Call) → reads c s ≡ ok q → Sized other (protocol.call q)
unfolding reads sized
said_fair other fits which.Request s d q e =
    let r = of_mapped protocol.ask (read_request s) q e in
    subst (λ (x : protocol.Call). Sized other (protocol.call x)) (sym r.2) (read_sized s r.0 r.1, tt)
said_fair other fits which.Receive s d q e =
    let m = among s (sent other) d in
    let r = of_mapped protocol.deliver (read_frame s) q e in
    let f : r.0 ≡ m.0 = let k : ok r.0 ≡ ok m.0 = sym r.1 ∙ ap read_frame m.2 ∙ written_reads m.0 (fits m.0 m.1) in cc in
    subst (λ (x : protocol.Call). Sized other (protocol.call x)) (sym (r.2 ∙ ap protocol.deliver f)) (refl, m.1)

pub call_fair : (a b : History) → Roomy a b → (c : Arguments) → DueOctets b c.call c.octets → (q : protocol.Call) → said c ≡ ok q → Sized b (protocol.call q)
call_fair a b i c d = said_fair b (limited (roomy.turns a b i)).fits c.call c.octets d

-- a restart, or a cut, is always due
cut_fair : (b : History) (s : Outcome protocol.Call) (o : Outcome Step) → Sized b (cut_says s o)
unfolding cut_says sized
cut_fair b (refused n) o = (refl, tt)
cut_fair b (ok q) (refused n) = (refl, tt)
cut_fair b (ok q) (ok x) = (refl, tt)

-- two numbers of questions, one after the other
twice : (m n : ℕ) (o : Outcome Step) → (k : ℕ) × (refusing m (refusing n o) ≡ refusing k o)
unfolding refusing
twice zero n o = (n, refl)
twice (suc m) n o = (suc m, refl)

-- what a call of the protocol comes to, and so the act
as_act : (s : Outcome protocol.Call) (e : Endpoint) → and_then s (λ (x : protocol.Call). protocol.perform x e) ≡ and_then (mapped protocol.call s) (λ (x : protocol.Act). protocol.does x e)
unfolding and_then mapped protocol.does
as_act (refused n) e = refl
as_act (ok q) e = refl

-- all along a list
abbrev pub list_holding : {format : Format} {a b : History} → Roomy a b → {rec page : List ℕ} → Lies format rec (now a) → GoesWith page (now a)
    → Holding format rec page (now a)
list_holding i k g =
    let m = limited i in
    record { is_sound = m.is_sound; bounded = m.bounded; last = i.reached_both.numbers_a.last; lies = k; paged = g }

-- the octets of both lie where the endpoint is e
abbrev pub LiesIn : Format → Lent → Endpoint → Type 0
LiesIn format r e = Lies format r.rec e × GoesWith r.page e

module _ (format : Format) (law : Lawful format) where
  -- a call comes to the number of a question, or to what the call of the protocol comes to that its octets say
  comes-to : {rec page : List ℕ} {e : Endpoint} → Holding format rec page e → (c : Arguments)
      → (n : ℕ) × (performed format rec page c ≡ refusing n (and_then (said c) (λ (x : protocol.Call). protocol.perform x e)))
  unfolding performed asked does
  comes-to k c = rw (keeps format law k) (twice _ _ _)

  pub asks : (a b : History) → Roomy a b → (r : Lent) → LiesIn format r (now a) → (c : Arguments) → Asks (ends format) r (call c) (now a)
  asks a b i r k c =
      let t = comes-to (list_holding i k.0 k.1) c in
      (t.0, t.1 ∙ ap (λ (o : Outcome Step). refusing t.0 o) (as_act (said c) (now a)))

  -- an accepted call is an accepted call of the protocol
  accepted : {rec page : List ℕ} {e : Endpoint} → Holding format rec page e → (c : Arguments) {x : Step} → performed format rec page c ≡ ok x
      → (q : protocol.Call) × (said c ≡ ok q) × (protocol.perform q e ≡ ok x)
  unfolding and_then
  accepted {e = e} k c {x} h =
      let t = comes-to k c in
      then (said c) (passing t.0 (sym t.1 ∙ h)).1
    where
      then : (s : Outcome protocol.Call) → and_then s (λ (q : protocol.Call). protocol.perform q e) ≡ ok x
          → (q : protocol.Call) × (s ≡ ok q) × (protocol.perform q e ≡ ok x)
      then (refused n) p = absurd (let z : ◌≡◌ {A = ℕ} 0 1 = cc in omega arith)
      then (ok q) p = (q, refl, p)

  -- what a restart comes to on the page of e, and with 11 of the record
  pub restart-comes : {page : List ℕ} (e : Endpoint) → GoesWith page e → e.local ≤ last_incarnation → restarting page ≡ ok (quiet (after_restart e) none)
  unfolding restarting refusing first when
  restart-comes {page} e g l =
      let f : used_for e.local ≤ page_size = omega arith in
      let long : page_size ≤ length page = omega (arith, ap length g.1, length-append (page_of (used_for e.local)) g.0, page_long (used_for e.local) f) in
      rw (le-leb page_size (length page) long, ap runs g.1 ∙ page-runs (used_for e.local) f g.0)
      (ap (λ (p : ℕ). ok (quiet (restarted p) none)) (ap count g.1 ∙ page-count (used_for e.local) f g.0))

  restart-in : {page : List ℕ} (e : Endpoint) → GoesWith page e → e.local ≤ last_incarnation → (rec : List ℕ)
      → (n : ℕ) × (restarted_in format rec page ≡ refusing n (ok (quiet (after_restart e) none)))
  unfolding restarted_in
  restart-in e g l rec =
      let n = first ((11, leb format.size (length rec)) ∷ []) in
      (n, ap (λ (o : Outcome Step). refusing n o) (restart-comes e g l))

  -- the page that a cut leaves: that of the endpoint which the call, accepted or not, would have left
  cut-page : {rec page : List ℕ} {e : Endpoint} → Holding format rec page e → (c : Arguments) (o : Outcome Step) → performed format rec page c ≡ o
      → GoesWith (page_after page o) (endpoint_left e o)
  unfolding page_after
  cut-page k c (refused n) h = k.paged
  cut-page {e = e} k c (ok x) h =
      let q = accepted k c h in
      stored k.paged (subst (λ (o : Outcome Step). Next e (endpoint_left e o)) q.2 (next_on q.0 e)) k.last

  cut-last : {rec page : List ℕ} {e : Endpoint} → Holding format rec page e → (c : Arguments) (o : Outcome Step) → performed format rec page c ≡ o
      → (endpoint_left e o).local ≤ last_incarnation
  cut-last k c (refused n) h = k.last
  cut-last {e = e} k c (ok x) h =
      let q = accepted k c h in
      (subst (λ (o : Outcome Step). Next e (endpoint_left e o)) q.2 (next_on q.0 e)).left k.last

  -- what it says does the same
  cut-does : {rec page : List ℕ} {e : Endpoint} → Holding format rec page e → (c : Arguments) (o : Outcome Step) → performed format rec page c ≡ o
      → ok (quiet (after_restart (endpoint_left e o)) none) ≡ protocol.does (cut_says (said c) o) e
  unfolding cut_says protocol.does
  cut-does {e = e} k c (refused n) h = none-cut (said c)
    where
      none-cut : (s : Outcome protocol.Call) → ok (quiet (after_restart e) none) ≡ protocol.does (cut_says s (refused n)) e
      none-cut (refused m) = refl
      none-cut (ok q) = refl
  cut-does {e = e} k c (ok x) h =
      let q = accepted k c h in
      ap (λ (o : Outcome Step). ok (quiet (after_restart (endpoint_left e o)) none)) (sym q.2)
      ∙ ap (λ (s : Outcome protocol.Call). protocol.does (cut_says s (ok x)) e) (sym q.1)

  -- a restart leaves the record and the page of the endpoint that it answers
  restart-leaves : {page : List ℕ} (e : Endpoint) {x : Endpoint} → GoesWith page e → e.local ≤ last_incarnation → x ≡ after_restart e → (rec : List ℕ)
      → LiesIn format (lent (put rec 0 (format.octets x)) page) x
  unfolding put
  restart-leaves e {x} g l p rec =
      let f : used_for e.local ≡ used_for x.local = omega (arith, ap (λ (z : Endpoint). z.local) p) in
      ((drop (0 + length (format.octets x)) rec, refl), (g.0, g.1 ∙ ap (λ (n : ℕ). page_of n ++ g.0) f))

  refuses : (r : Lent) (e : Endpoint) → LiesIn format r e → (c : LentAct) (n : ℕ) → LiesIn format ((ends format).leaves r c (refused n)) e
  unfolding record_after page_after renewed mapped left
  refuses r e k (call c) n = k
  refuses r e k (restart rec) n = k
  refuses r e k (cut c rec) n = k

  module _ {a b : History} (i : Roomy a b) (r : Lent) (k : LiesIn format r (now a)) where
    abbrev held : Holding format r.rec r.page (now a)
    held = list_holding i k.0 k.1

    fair : (c : LentAct) → LentDue format b c → (q : protocol.Act) → (ends format).said r c ≡ ok q → Sized b q
    unfolding sized
    fair (call c) d q e =
        let m = of_mapped protocol.call (said c) q e in
        subst (Sized b) (sym m.2) (call_fair a b i c d m.0 m.1)
    fair (restart rec) d q e = let z : protocol.restart ≡ q = cc in subst (Sized b) z (refl, tt)
    fair (cut c rec) d q e = let z : cut_says (said c) (performed format r.rec r.page c) ≡ q = cc in subst (Sized b) z (cut_fair b _ _)

    pub comes : (c : LentAct) → Asks (ends format) r c (now a)
    unfolding and_then protocol.does
    comes (call c) = asks a b i r k c
    comes (restart rec) = restart-in (now a) k.1 held.last rec
    comes (cut c rec) =
        let o = performed format r.rec r.page c in
        let t = restart-in (endpoint_left (now a) o) (cut-page held c o refl) (cut-last held c o refl) rec in
        (t.0, t.1 ∙ ap (λ (z : Outcome Step). refusing t.0 z) (cut-does held c o refl))

    -- what is answered by a restart
    answered : (rec : List ℕ) {page : List ℕ} (e : Endpoint) → GoesWith page e → e.local ≤ last_incarnation → {x : Step} → restarted_in format rec page ≡ ok x
        → x.endpoint ≡ after_restart e
    answered rec e g l {x} h =
        let t = restart-in e g l rec in
        let z : ok (quiet (after_restart e) none) ≡ ok x = (passing t.0 (sym t.1 ∙ h)).1 in
        cc

    accepts : (g : History) → Roomy g b → (c : LentAct) (x : Step) → (ends format).comes r c ≡ ok x → now g ≡ x.endpoint
        → LiesIn format ((ends format).leaves r c (ok x)) (now g)
    unfolding record_after page_after renewed mapped left
    accepts g j (call c) x h e =
        let n = limited j in
        let p : GoesWith (reserving x.endpoint.local r.page) x.endpoint = cut-page held c (ok x) h in
        (rw (sym e) (k.0.0, written format law held (now g) n.is_sound n.bounded), rw e p)
    accepts g j (restart rec) x h e = rw e (restart-leaves (now a) k.1 held.last (answered rec (now a) k.1 held.last h) rec)
    accepts g j (cut c rec) x h e =
        let o = performed format r.rec r.page c in
        let p = cut-page held c o refl in
        let l = cut-last held c o refl in
        let f = endpoint_left (now a) o in
        rw e (restart-leaves f p l (answered rec f p l h) rec)

pub lies : (format : Format) → Lawful format → Simulates (ends format) Roomy Sized (LiesIn format)
lies format law =
    record {
      starts = λ r f. f;
      fair = λ a b i r k. fair format law i r k;
      comes = λ a b i r k c. inl (comes format law i r k c);
      refuses = refuses format law;
      accepts = λ a b g i j r k c q s. accepts format law i r k g j c;
    }

-- no end opens without its partner
pub demand_3 : (format : Format) → Lawful format → NoEndAlone (ends format) (ends format)
demand_3 format law = no_end_alone (ends format) (ends format) roomy (lies format law) (lies format law)

-- no number is used twice
pub no_number_twice : (format : Format) → Lawful format → NoNumberTwice (ends format) (ends format)
no_number_twice format law = protocol-theorem.no_number_twice (ends format) (ends format) (lies format law) (lies format law)

-- 12 and 15 refuse nothing
pub never_refused : (format : Format) → Lawful format → NeverRefused format
never_refused format law start f calls d =
    let k = kept (ends format) (ends format) roomy (lies format law) (lies format law) start f calls d in (
      passes-both format law (list_holding k.both k.this.0 k.this.1),
      passes-both format law (list_holding (roomy.turns _ _ k.both) k.other.0 k.other.1),
    )
