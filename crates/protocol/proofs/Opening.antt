-- The first half of demand 3: as an end opens, its partner is there.
use Prim.Native.Nat.{ℕ, zero, suc, ◌*◌, ◌≤◌}
use mathlib.Core.Path.{◌≡◌, refl, sym, subst, ◌∙◌}
use mathlib.Core.Logic.{◌≢◌, ◌⊎◌, inl, inr, ⊎_elim}
use mathlib.Core.List.Memᴰ
use mathlib.Core.List.{List, [], ◌∷◌, Memᴰ}
use native.Mathlib.Omega.{arith}
use native.Mathlib.Decide.{ℕ_discrete}
use Rattle.frame.specs.Frame.{Block, CRAO, Frame, control, connect}
use Rattle.protocol.specs.Endpoint.{Endpoint}
use Rattle.protocol.specs.Restart.{restarted}
use Rattle.protocol.specs.Table.{none, Sent, Notice, Step, quiet}
use Rattle.protocol.specs.Requests.{begun, accept}
use Rattle.protocol.specs.History.{ask, Act, call, Event, History, now, sent}
use Rattle.protocol.specs.Claim.{BegunByConnect, Opens, Restarts, RestartedWhile, Met}
use Rattle.protocol.proofs.Facts.{Laden, none_lengths, load, Move, stays, answers, recalls, opens, joins, relistens, resets, hangs_up, drops}
use Rattle.protocol.proofs.Facts.{Says, silence, crao, crpo, crack, rej, reset_said, dr, drack, drack_to_other, datum, ack, Fires, fires, Carry, step_to}
use Rattle.protocol.proofs.Calls.{Of, Heard, no_frame, from, with_new, event, Deed, refuses, connects, listens, goes, restarts}
use Rattle.protocol.proofs.Invariant.{Party, EndHolds, Holds, back, agreed, ends-i, ends-j, holds-i, holds-j, said}
use Rattle.protocol.proofs.Invariant.{BeginsBy, begins-i, begins-j, begun-i, begun-j}
use Rattle.protocol.proofs.Invariant.{lost_now, is_lost, restarts-i, restarts-j, restarted-i, restarted-j}

-- the end restarted in its incarnation s, while it named l
pub record Left (s l : ℕ) (e : Endpoint) : Type 0 where
  pub local_was : e.local ≡ s
  pub remote_was : e.remote ≡ l
  pub at_least : 2 ≤ e.state
  pub at_most : e.state ≤ 5

-- one more event
begun_still : (x : Event) {h : History} {l : ℕ} → BegunByConnect h l → BegunByConnect (x ∷ h) l
begun_still x u = (u.0, Memᴰ.tail u.1, u.2, u.3)

went_still : (x : Event) {h : History} {s l : ℕ} → RestartedWhile h (Left s l) → RestartedWhile (x ∷ h) (Left s l)
went_still x u = (u.0, Memᴰ.tail u.1, u.2, u.3)

-- a CRAO was sent in an incarnation begun by connect
abbrev pub Calls : History → Frame → Type 0
Calls h g = g.kind ≡ CRAO → BegunByConnect h g.sender

-- only a calling end sends one
calls_on : {h : History} {x : Endpoint} {f : Frame} {o : Sent} → (x.state ≡ 2 → BegunByConnect h x.local) → Says x f o → Of (Calls h) o
calls_on c silence = tt
calls_on c (crao p) = λ _. c p
calls_on c (crpo p) = λ k. absurd (omega arith)
calls_on c (crack p) = λ k. absurd (omega arith)
calls_on c (rej p q r s) = λ k. absurd (omega arith)
calls_on c (reset_said p q r s) = λ k. absurd (omega arith)
calls_on c (dr p) = λ k. absurd (omega arith)
calls_on c (drack p q) = λ k. absurd (omega arith)
calls_on c (drack_to_other p q r s) = λ k. absurd (omega arith)
calls_on c (datum n b p q r s) = λ k. absurd (omega arith)
calls_on c (ack n p q) = λ k. absurd (omega arith)

-- All that holds of two ends that a list of calls has reached. by_a and by_b say what began their incarnations, lost_a and lost_b in
-- which they restarted.
pub record Joint (a b : History) : Type 0 where
  pub by_a : ℕ
  pub by_b : ℕ
  pub lost_a : ℕ → ℕ → ℕ
  pub lost_b : ℕ → ℕ → ℕ
  pub ends_a : EndHolds (record { at = now a; by = by_a; lost = lost_a }) (record { at = now b; by = by_b; lost = lost_b })
  pub ends_b : EndHolds (record { at = now b; by = by_b; lost = lost_b }) (record { at = now a; by = by_a; lost = lost_a })
  pub laden_a : Laden (now a)
  pub laden_b : Laden (now b)
  pub holds_a : (g : Frame) → Memᴰ g (sent a) → Holds (record { at = now a; by = by_a; lost = lost_a }) (record { at = now b; by = by_b; lost = lost_b }) g
  pub holds_b : (g : Frame) → Memᴰ g (sent b) → Holds (record { at = now b; by = by_b; lost = lost_b }) (record { at = now a; by = by_a; lost = lost_a }) g
  pub called_a : by_a ≡ 1 → 1 ≤ (now a).state → BegunByConnect a (now a).local
  pub called_b : by_b ≡ 1 → 1 ≤ (now b).state → BegunByConnect b (now b).local
  pub went_a : (s l : ℕ) → 1 ≤ l → lost_a s l ≢ 0 → RestartedWhile a (Left s l)
  pub went_b : (s l : ℕ) → 1 ≤ l → lost_b s l ≢ 0 → RestartedWhile b (Left s l)
  -- what an answering end names was begun by connect
  pub calls_a : (g : Frame) → Memᴰ g (sent a) → Calls a g
  pub calls_b : (g : Frame) → Memᴰ g (sent b) → Calls b g
  pub hears_a : (now a).state ≡ 3 → BegunByConnect b (now a).remote
  pub hears_b : (now b).state ≡ 3 → BegunByConnect a (now b).remote

pub swap : {a b : History} → Joint a b → Joint b a
swap h = record {
  by_a = h.by_b;
  by_b = h.by_a;
  lost_a = h.lost_b;
  lost_b = h.lost_a;
  ends_a = h.ends_b;
  ends_b = h.ends_a;
  laden_a = h.laden_b;
  laden_b = h.laden_a;
  holds_a = h.holds_b;
  holds_b = h.holds_a;
  called_a = h.called_b;
  called_b = h.called_a;
  went_a = h.went_b;
  went_b = h.went_a;
  calls_a = h.calls_b;
  calls_b = h.calls_a;
  hears_a = h.hears_b;
  hears_b = h.hears_a;
}

at_least_2 : (n : ℕ) → (n ≤ 1 → ⊥) → 2 ≤ n
at_least_2 zero h = absurd (h (omega arith))
at_least_2 (suc zero) h = absurd (h (omega arith))
at_least_2 (suc (suc n)) h = omega arith

-- what is left of a call at a: the two ends, and that a has met its partner if it opened
pub record Next (a b a' : History) : Type 0 where
  pub joint : Joint a' b
  pub met : Opens (now a) (now a') → Met a' b

module _ {a b : History} (h : Joint a b) where
  abbrev i : Party
  i = record { at = now a; by = h.by_a; lost = h.lost_a }

  abbrev j : Party
  j = record { at = now b; by = h.by_b; lost = h.lost_b }

  -- an end that answers names one that was begun by connect
  hearing : {f : Frame} → Calls b f → {x : Endpoint} → Move (now a) f x → x.state ≡ 3 → BegunByConnect b x.remote
  hearing cf (stays p q r) e = subst (BegunByConnect b) (sym r) (h.hears_a (sym p ∙ e))
  hearing cf (answers k d p q n) e = cf k
  hearing cf (recalls k d p) e = absurd (omega arith)
  hearing cf (opens k l r d p) e = absurd (omega arith)
  hearing cf (joins k r d p) e = absurd (omega arith)
  hearing cf (relistens k r d p) e = absurd (omega arith)
  hearing cf (resets k r d p) e = absurd (omega arith)
  hearing cf (hangs_up p d) e = absurd (omega arith)
  hearing cf (drops p u) e = absurd (omega arith)

  -- as an end opens, it was, or the one that it names
  called : {f : Frame} {x : Endpoint} → Move (now a) f x → (now a).state ≢ 4 → x.state ≡ 4 → BegunByConnect a (now a).local ⊎ BegunByConnect b x.remote
  called (stays p q r) n e = absurd (n (sym p ∙ e))
  called (answers k d p q m) n e = absurd (omega arith)
  called (recalls k d p) n e = absurd (omega arith)
  called (opens k l r d p) n e = inl (h.called_a (h.ends_a.calling p) (omega arith))
  called (joins k r d p) n e = inr (subst (BegunByConnect b) (sym d) (h.hears_a p))
  called (relistens k r d p) n e = absurd (omega arith)
  called (resets k r d p) n e = absurd (omega arith)
  called (hangs_up p d) n e = absurd (omega arith)
  called (drops p u) n e = absurd (omega arith)

  -- The end a hears f, which b has sent: the same incarnation.
  module _ (c : Act) (f : Frame) (hf : Holds j i f) (cf : Calls b f) {x : Endpoint} (n : Notice) (o : Sent) (m : Move (now a) f x) where
    abbrev ev : Event
    ev = event c a (record { endpoint = x; notice = n; sent = o })

    -- an incarnation begun by connect stays so
    older : BegunByConnect a (now a).local → BegunByConnect (ev ∷ a) x.local
    older u = (u.0, Memᴰ.tail u.1, u.2, u.3 ∙ sym (back m).local)

    -- an end that calls was begun by connect
    calling : x.state ≡ 2 → BegunByConnect (ev ∷ a) x.local
    calling p =
        let q = (back m).from2 p in
        older (h.called_a (h.ends_a.calling q) (omega arith))

    meets : Opens (now a) x → Met (ev ∷ a) b
    unfolding now
    meets u = found (ℕ_discrete (h.lost_b x.remote x.local) 0)
      where
        begun-by : {l : ℕ} → l ≡ x.remote → BegunByConnect (ev ∷ a) x.local ⊎ BegunByConnect b l
        begun-by e = ⊎_elim (λ v. inl (older v)) (λ v. inr (subst (BegunByConnect b) (sym e) v)) (called m u.0 u.1)

        found : Dec (h.lost_b x.remote x.local ≡ 0) → Met (ev ∷ a) b
        found (yes z) =
            let r = back m in
            let v = agreed h.ends_a h.ends_b hf m u.0 u.1 z in
            let l = h.ends_a.sane.local≥ (r.alive (omega (arith, u.1))) in
            inl (record {
              named = v.named;
              named_back = v.named_back;
              at_least = at_least_2 (now b).state (λ s. omega (arith, h.ends_b.sane.remote_none s, r.local, v.named_back));
              at_most = h.ends_b.sane.known;
              called = begun-by v.named;
            })
        found (no n) =
            let r = back m in
            let l = h.ends_a.sane.local≥ (r.alive (omega (arith, u.1))) in
            let w = h.went_b x.remote x.local (omega (arith, r.local)) n in
            let t = w.3 in
            inr (
              w.0,
              w.1,
              w.2,
              record {
                named = t.local_was;
                named_back = t.remote_was;
                at_least = t.at_least;
                at_most = t.at_most;
                called = begun-by t.local_was;
              },
            )

    joins-on : {bs : List Block} → Carry (now a) f x n bs → Says x f o → Joint (ev ∷ a) b
    unfolding now sent
    joins-on l s =
        let hx = ends-i h.ends_a h.ends_b hf m in
        let hy = ends-j h.ends_a h.ends_b hf m in
        record {
          by_a = h.by_a;
          by_b = h.by_b;
          lost_a = h.lost_a;
          lost_b = h.lost_b;
          ends_a = hx;
          ends_b = hy;
          laden_a = load h.laden_a l;
          laden_b = h.laden_b;
          holds_a = with_new o
              (said hx hy (holds-j h.ends_a h.ends_b hf m hf) s)
              (λ g k. holds-i h.ends_a h.ends_b hf m (h.holds_a g k));
          holds_b = λ g k. holds-j h.ends_a h.ends_b hf m (h.holds_b g k);
          called_a = λ e q. older (h.called_a e ((back m).alive q));
          called_b = h.called_b;
          went_a = λ s l p n. went_still ev (h.went_a s l p n);
          went_b = h.went_b;
          calls_a = with_new o (calls_on calling s) (λ g k e. begun_still ev (h.calls_a g k e));
          calls_b = h.calls_b;
          hears_a = hearing cf m;
          hears_b = λ e. begun_still ev (h.hears_b e);
        }

  goes_on : (c : Act) (f : Frame) → Holds j i f → Calls b f → {bs : List Block} {x : Step} → Fires (now a) f bs x → Next a b (event c a x ∷ a)
  unfolding now
  goes_on c f hf cf (fires {n = n} {o = o} m l s) = record { joint = joins-on c f hf cf n o m l s; met = meets c f hf cf n o m }

  -- a request is as if a frame of no kind were heard
  hears : {f : Frame} → Heard b f → Holds j i f
  hears no_frame = omega arith
  hears (from m) = h.holds_b _ m

  hears-calls : {f : Frame} → Heard b f → Calls b f
  hears-calls no_frame = λ k. absurd (omega arith)
  hears-calls (from m) = h.calls_b _ m

  -- a new incarnation
  begins-on : (c : Act) {st by : ℕ} → BeginsBy st by → (now a).state ≡ 0 → (by ≡ 1 → c ≡ call (ask connect)) → {n : Notice} {o : Sent}
      → Says (begun st (now a)) (control 0 0 0) o → Next a b (event c a (step_to (begun st (now a)) n o) ∷ a)
  unfolding now sent
  begins-on c {by = by} t z k {o = o} w =
      let hx = begins-i h.ends_a h.ends_b z t in
      let hy = begins-j h.ends_a h.ends_b z t in
      record {
        joint = record {
          by_a = by;
          by_b = h.by_b;
          lost_a = h.lost_a;
          lost_b = h.lost_b;
          ends_a = hx;
          ends_b = hy;
          laden_a = record { waits = omega arith; places = omega arith; eight = refl; idle = λ _. (refl, refl, none_lengths) };
          laden_b = h.laden_b;
          holds_a = with_new o
              (said hx hy (omega arith) w) (λ g m. begun-i h.ends_a h.ends_b z t (h.holds_a g m));
          holds_b = λ g m. begun-j h.ends_a h.ends_b z t (h.holds_b g m);
          called_a = λ e _. (_, Memᴰ.head refl, k e, refl);
          called_b = h.called_b;
          went_a = λ s l p n. went_still _ (h.went_a s l p n);
          went_b = h.went_b;
          calls_a = with_new o (calls_on (λ p. (_, Memᴰ.head refl, k (t.connects p), refl)) w) (λ g m e. begun_still _ (h.calls_a g m e));
          calls_b = h.calls_b;
          hears_a = λ e. absurd (omega arith);
          hears_b = λ e. begun_still _ (h.hears_b e);
        };
        met = λ u. absurd (omega (arith, u.1));
      }

  -- a restart
  restarts-on : (c : Act) → Restarts c → (p : ℕ) → (now a).local ≤ 16 * p → Next a b (event c a (quiet (restarted p) none) ∷ a)
  unfolding now sent
  restarts-on c t p le = record {
    joint = record {
      by_a = h.by_a;
      by_b = h.by_b;
      lost_a = lost_now i;
      lost_b = h.lost_b;
      ends_a = restarts-i h.ends_a h.ends_b p le;
      ends_b = restarts-j h.ends_a h.ends_b p le;
      laden_a = record { waits = omega arith; places = omega arith; eight = refl; idle = λ _. (refl, refl, none_lengths) };
      laden_b = h.laden_b;
      holds_a = λ g m. restarted-i h.ends_a h.ends_b p le (h.holds_a g m);
      holds_b = λ g m. restarted-j h.ends_a h.ends_b p le (h.holds_b g m);
      called_a = λ e q. absurd (omega arith);
      called_b = h.called_b;
      went_a = λ s l q n. ⊎_elim
          (λ o. went_still _ (h.went_a s l q o))
          (λ o. (
            _,
            Memᴰ.head refl,
            t,
            record {
              local_was = sym o.0;
              remote_was = sym o.1;
              at_least = at_least_2 (now a).state (λ z. omega (arith, h.ends_a.sane.remote_none z, o.1));
              at_most = h.ends_a.sane.known;
            },
          ))
          (is_lost i s l n);
      went_b = h.went_b;
      calls_a = λ g m e. begun_still _ (h.calls_a g m e);
      calls_b = h.calls_b;
      hears_a = λ e. absurd (omega arith);
      hears_b = λ e. begun_still _ (h.hears_b e);
    };
    met = λ u. absurd (omega (arith, u.1));
  }

  pub acts : {c : Act} {a' : History} → Deed a b c a' → Next a b a'
  unfolding accept
  acts refuses = record { joint = h; met = λ u. absurd (u.0 u.1) }
  acts (connects z l e) = begins-on _ {st = 2} {by = 1} (omega arith) z (λ _. e) (crao refl)
  acts (listens z l e) = begins-on _ {st = 1} {by = 0} (omega arith) z (λ k. absurd (omega arith)) silence
  acts (goes f n x) = goes_on _ _ (hears f) (hears-calls f) x
  acts (restarts p t l m) = restarts-on _ t p l

pub fresh-ends : Joint [] []
unfolding now sent
fresh-ends = record {
  by_a = 0;
  by_b = 0;
  lost_a = λ s l. 0;
  lost_b = λ s l. 0;
  ends_a = omega arith;
  ends_b = omega arith;
  laden_a = record { waits = omega arith; places = omega arith; eight = refl; idle = λ _. (refl, refl, none_lengths) };
  laden_b = record { waits = omega arith; places = omega arith; eight = refl; idle = λ _. (refl, refl, none_lengths) };
  holds_a = λ g m. absurd (Memᴰ.not-nil m);
  holds_b = λ g m. absurd (Memᴰ.not-nil m);
  called_a = λ e. absurd (omega arith);
  called_b = λ e. absurd (omega arith);
  went_a = λ s l p n. absurd (n refl);
  went_b = λ s l p n. absurd (n refl);
  calls_a = λ g m. absurd (Memᴰ.not-nil m);
  calls_b = λ g m. absurd (Memᴰ.not-nil m);
  hears_a = λ e. absurd (omega arith);
  hears_b = λ e. absurd (omega arith);
}
