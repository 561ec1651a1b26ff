-- Demand 3 along a list of calls, in whatever form the records are.
use Prim.Native.Nat.{ℕ, zero, suc}
use mathlib.Core.Path.{◌≡◌, refl, sym, subst}
use mathlib.Core.Logic.{◌⊎◌, inl, ⊎_elim}
use mathlib.Core.List.{List, [], ◌∷◌, ◌++◌}
use Rattle.octets.specs.Test.{Outcome, refused, ok, refusing, and_then}
use Rattle.protocol.specs.Endpoint.{Endpoint, fresh}
use Rattle.protocol.specs.Table.{Step}
use Rattle.protocol.specs.History.{Act, does, History, now, recorded, after}
use Rattle.protocol.specs.World.{Ends, End, Entry, at_a, at_b, Two, called, made, run, DueAt, AllDue, BothNew, ends_where}
use Rattle.protocol.specs.Claim.{Opens, Met, Meets, EachMeets, InOrder, NoEndAlone}

-- What holds of two ends' histories wherever fair acts of the protocol have come, and why demand 3 follows from it.
pub record Invariant (I : History → History → Type 0) (Fair : History → Act → Type 0) : Type 0 where
  pub starts : I [] []
  pub turns : (a b : History) → I a b → I b a
  pub goes_on : (a b : History) → I a b → (c : Act) → Fair b c → I (after c a) b
  pub meets : (a b : History) → I a b → (c : Act) → Fair b c → Opens (now a) (now (after c a)) → Met (after c a) b
  pub in_order : (a b : History) → I a b → InOrder a b

-- what a call comes to at an endpoint: the number of a question, or what the act of the protocol comes to that it says
abbrev pub asking : ℕ → Outcome Act → Endpoint → Outcome Step
asking n q e = refusing n (and_then q (λ (x : Act). does x e))

-- A call that finds a record with the endpoint e comes to a question's number, or to what the act of the protocol comes to that it says.
abbrev pub Asks : (E : Ends) → E.Record → E.Call → Endpoint → Type 0
Asks E r c e = (n : ℕ) × (E.comes r c ≡ asking n (E.said r c) e)

-- Or it says no act of the protocol, and whatever it comes to, the record goes on holding e.
pub record Idle (E : Ends) (Holds : E.Record → Endpoint → Type 0) (r : E.Record) (c : E.Call) (e : Endpoint) : Type 0 where
  pub number : ℕ
  pub none : E.said r c ≡ refused number
  pub leaves : Holds (E.leaves r c (E.comes r c)) e

-- The records of E hold endpoints, and its calls do as fair acts of the protocol do, wherever I holds of the histories.
pub record Simulates (E : Ends) (I : History → History → Type 0) (Fair : History → Act → Type 0) (Holds : E.Record → Endpoint → Type 0) : Type 0 where
  pub starts : (r : E.Record) → E.Fresh r → Holds r fresh
  pub fair : (a b : History) → I a b → (r : E.Record) → Holds r (now a) → (c : E.Call) → E.Due a b c → (q : Act) → E.said r c ≡ ok q → Fair b q
  pub comes : (a b : History) → I a b → (r : E.Record) → Holds r (now a) → (c : E.Call) → Asks E r c (now a) ⊎ Idle E Holds r c (now a)
  pub refuses : (r : E.Record) (e : Endpoint) → Holds r e → (c : E.Call) (n : ℕ) → Holds (E.leaves r c (refused n)) e
  pub accepts : (a b g : History) → I a b → I g b → (r : E.Record) → Holds r (now a) → (c : E.Call) (q : Act) → E.said r c ≡ ok q
      → (x : Step) → E.comes r c ≡ ok x → now g ≡ x.endpoint → Holds (E.leaves r c (ok x)) (now g)

-- two ends whose records hold what their calls have answered
pub record Held (A B : Ends) (I : History → History → Type 0) (H : A.Record → Endpoint → Type 0) (K : B.Record → Endpoint → Type 0) (x : End A.Record) (y : End B.Record) : Type 0 where
  pub both : I x.history y.history
  pub this : H x.rec (now x.history)
  pub other : K y.rec (now y.history)

-- One call at an end, beside the history b of the other.
module _ (E : Ends) {I : History → History → Type 0} {Fair : History → Act → Type 0} {Holds : E.Record → Endpoint → Type 0}
    (h : Invariant I Fair) (s : Simulates E I Fair Holds) where
  -- what a call leaves of an end: the history g and the record r
  record Goes (a b g : History) (r : E.Record) : Type 0 where
    pub both : I g b
    pub this : Holds r (now g)
    pub meets : Opens (now a) (now g) → Met g b

  -- one call does nothing, or what an act of the protocol does
  module _ (a b : History) (i : I a b) (r : E.Record) (k : Holds r (now a)) (e : E.Call) where
    stays : (n : ℕ) → Goes a b a (E.leaves r e (refused n))
    stays n = record { both = i; this = s.refuses r (now a) k e n; meets = λ o. absurd (o.0 o.1) }

    goes : (n : ℕ) (q : Outcome Act) → E.said r e ≡ q → E.comes r e ≡ asking n q (now a) → ((c : Act) → q ≡ ok c → Fair b c)
        → Goes a b (recorded q (asking n q (now a)) a) (E.leaves r e (asking n q (now a)))
    unfolding recorded refusing and_then after now
    goes (suc n) (refused m) says p fair = stays (suc n)
    goes (suc n) (ok c) says p fair = stays (suc n)
    goes zero (refused m) says p fair = stays m
    goes zero (ok c) says p fair =
        let j = h.goes_on a b i c (fair c refl) in
        record { both = j; this = by_answer (does c (now a)) p j; meets = h.meets a b i c (fair c refl) }
      where
        by_answer : (o : Outcome Step) → E.comes r e ≡ o → I (recorded (ok c) o a) b → Holds (E.leaves r e o) (now (recorded (ok c) o a))
        by_answer (refused m) p j = s.refuses r (now a) k e m
        by_answer (ok x) p j = s.accepts a b _ i j r k e c says x p refl

    idles : Idle E Holds r e (now a) → Goes a b (recorded (E.said r e) (E.comes r e) a) (E.leaves r e (E.comes r e))
    unfolding recorded
    idles d = rw d.none (record { both = i; this = d.leaves; meets = λ o. absurd (o.0 o.1) })

  -- so the call, at the end x
  call_at : (x : End E.Record) (b : History) → I x.history b → Holds x.rec (now x.history) → (c : E.Call) → E.Due x.history b c
      → Goes x.history b (called E c x).history (called E c x).rec
  unfolding called
  call_at x b i k c d =
      ⊎_elim
      (λ (o : Asks E x.rec c (now x.history)). rw o.1 (goes _ _ i x.rec k c o.0 (E.said x.rec c) refl o.1 (s.fair _ _ i x.rec k c d)))
      (λ (o : Idle E Holds x.rec c (now x.history)). idles _ _ i x.rec k c o)
      (s.comes _ _ i x.rec k c)

module _ (A B : Ends) {I : History → History → Type 0} {Fair : History → Act → Type 0} {H : A.Record → Endpoint → Type 0} {K : B.Record → Endpoint → Type 0}
    (h : Invariant I Fair) (s : Simulates A I Fair H) (t : Simulates B I Fair K) where
  abbrev Kept : Two A B → Type 0
  Kept w = Held A B I H K w.a w.b

  -- an entry of the list: what holds of the ends goes on, and (a) is met
  pub entry_at : (c : Entry A.Call B.Call) (w : Two A B) → Kept w → DueAt A B c w → Kept (made A B c w) × Meets A B w (made A B c w)
  entry_at (at_a c) w k d =
      let g = call_at A h s w.a w.b.history k.both k.this c d in
      (record { both = g.both; this = g.this; other = k.other }, record { at_a = g.meets; at_b = λ o. absurd (o.0 o.1) })
  entry_at (at_b c) w k d =
      let g = call_at B h t w.b w.a.history (h.turns _ _ k.both) k.other c d in
      (record { both = h.turns _ _ g.both; this = k.this; other = g.this }, record { at_a = λ o. absurd (o.0 o.1); at_b = g.meets })

  -- a list of calls
  along : (w : Two A B) → Kept w → (cs : List (Entry A.Call B.Call)) → AllDue A B w cs → EachMeets A B w cs × Kept (run A B w cs)
  along w k [] d = (tt, k)
  along w k (c ∷ cs) d =
      let e = entry_at c w k d.0 in
      let r = along (made A B c w) e.0 cs d.1 in
      ((e.1, r.0), r.1)

  pub new-held : (w : Two A B) → BothNew A B w → Kept w
  unfolding now
  new-held w f = rw (f.0.1, f.1.1) (record { both = h.starts; this = s.starts _ f.0.0; other = t.starts _ f.1.0 })

  -- what holds along it
  pub kept : (w : Two A B) → BothNew A B w → (cs : List (Entry A.Call B.Call)) → AllDue A B w cs → Kept (run A B w cs)
  kept w f cs d = (along w (new-held w f) cs d).1

  pub reached : (w : Two A B) → BothNew A B w → (cs : List (Entry A.Call B.Call)) → AllDue A B w cs → I (run A B w cs).a.history (run A B w cs).b.history
  reached w f cs d = (kept w f cs d).both

  -- the one law: neither end opens without its partner
  pub no_end_alone : NoEndAlone A B
  no_end_alone w f cs d =
      let i = reached w f cs d in
      record { meets = (along w (new-held w f) cs d).0; to_a = h.in_order _ _ i; to_b = h.in_order _ _ (h.turns _ _ i) }

-- the ends of the protocol are such ends
pub itself : (I : History → History → Type 0) (Fair : History → Act → Type 0) → Simulates (ends_where Fair) I Fair (λ r e. r ≡ e)
unfolding refusing and_then
itself I Fair =
    record {
      starts = λ r f. f;
      fair = λ a b i r k c d q e. let z : c ≡ q = cc in subst (Fair b) z d;
      comes = λ a b i r k c. inl (0, rw k refl);
      refuses = λ r e k c n. k;
      accepts = λ a b g i j r k c q s x o e. sym e;
    }

-- one list of calls after another
module _ (A B : Ends) where
  pub run-append : (w : Two A B) (cs ds : List (Entry A.Call B.Call)) → run A B w (cs ++ ds) ≡ run A B (run A B w cs) ds
  run-append w [] ds = refl
  run-append w (c ∷ cs) ds = run-append (made A B c w) cs ds

  pub due-append : (w : Two A B) (cs ds : List (Entry A.Call B.Call)) → AllDue A B w cs → AllDue A B (run A B w cs) ds → AllDue A B w (cs ++ ds)
  due-append w [] ds h g = g
  due-append w (c ∷ cs) ds h g = (h.0, due-append (made A B c w) cs ds h.1 g)
