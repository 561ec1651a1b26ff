-- The blocks handed up and accepted, call by call, at one end. The invariant of the connection is not used here.
use Prim.Native.Nat.{ℕ, ◌+◌, ◌-◌, ◌≤◌, ◌<◌}
use mathlib.Core.Path.{◌≡◌, refl, sym, subst, subst₂, ◌∙◌, ap}
use mathlib.Core.Logic.{◌≢◌, ◌⊎◌, inl, inr, ⊎_elim}
use mathlib.Core.List.{List, [], ◌∷◌, ◌++◌, append-nil, append_assoc}
use mathlib.Core.List.Memᴰ
use mathlib.Core.List.{Memᴰ}
use native.Mathlib.Omega.{arith}
use native.Mathlib.Decide.{ℕ_discrete}
use lib.Dec.{T, eqb, T_not}
use lib.ListN.{length, drop, get_or, length-append, length-drop, get_or-append}
use lib.Seq.{drop-drop, drop-append-le, get_or-append_seam, append_snoc, get_or-drop}
use Rattle.octets.proofs.Test.{if-eq, eq_yes, eq_no}
use Rattle.frame.specs.Frame.{Block, DATA, Frame}
use Rattle.protocol.specs.Endpoint.{Endpoint, waiting}
use Rattle.protocol.specs.Table.{Notice, none, connected, rejected, closed_by_partner, close_finished, handed_up, Sent}
use Rattle.protocol.specs.History.{Act, Event, History, now, sent}
use Rattle.protocol.specs.Claim.{Opens, block_up, handed_up_in, block_accepted, accepted_for, OpenedWith, Prefix}
use Rattle.protocol.proofs.Facts.{silent, Laden, load, Carry, keeps, clears, begins, takes, overtakes, releases, queues, step_to}
use Rattle.protocol.proofs.Facts.{Says, silence, crao, crpo, crack, rej, reset_said, dr, drack, drack_to_other, datum, ack}
use Rattle.protocol.proofs.Calls.{Of, with_new, event}
use Rattle.protocol.proofs.Invariant.{Back}

-- Lists of blocks.
add_none : (l : List Block) {bs : List Block} → bs ≡ [] → l ++ bs ≡ l
add_none l e = ap (λ (bs : List Block). l ++ bs) e ∙ append-nil l

pub prefix_grow : (xs ys zs : List Block) → Prefix xs ys → Prefix xs (ys ++ zs)
prefix_grow xs ys zs p = (p.0 ++ zs, sym (append_assoc xs p.0 zs) ∙ ap (λ (l : List Block). l ++ zs) p.1)

-- b stands at the place n
pub record Stands (ys : List Block) (n : ℕ) (b : Block) : Type 0 where
  pub below : n < length ys
  pub is : get_or ys n [] ≡ b

pub stands_grow : (ys zs : List Block) {n : ℕ} {b : Block} → Stands ys n b → Stands (ys ++ zs) n b
stands_grow ys zs {n} h = record { below = omega (arith, length-append ys zs, h.below); is = get_or-append ys zs [] n h.below ∙ h.is }

-- where the next block of ys is b, one block more is still a prefix
pub prefix_more : (xs ys : List Block) (b : Block) → Prefix xs ys → Stands ys (length xs) b → Prefix (xs ++ (b ∷ [])) ys
prefix_more xs ys b p s = go p.0 p.1
  where
    go : (zs : List Block) → xs ++ zs ≡ ys → Prefix (xs ++ (b ∷ [])) ys
    go [] q = absurd (omega (arith, length-append xs [], ap length q, s.below))
    go (z ∷ zs) q =
        let w : z ≡ b = sym (get_or-append_seam xs z zs []) ∙ ap (λ (k : List Block). get_or k (length xs) []) q ∙ s.is in
        (zs, append_snoc xs b zs ∙ ap (λ (c : Block). xs ++ c ∷ zs) (sym w) ∙ q)

-- What one more call adds.
no_block : (n : Notice) → T (silent n) → block_up n ≡ []
no_block none t = refl
no_block connected t = refl
no_block rejected t = refl
no_block closed_by_partner t = refl
no_block close_finished t = refl
no_block (handed_up b) t = absurd t

module _ (x : Event) (h : History) where
  pub up-silent : T (silent x.answer.notice) → (l : ℕ) → handed_up_in l (x ∷ h) ≡ handed_up_in l h
  unfolding handed_up_in
  up-silent t l = add_none (handed_up_in l h) (if-eq (λ (bs : List Block). bs ≡ []) _ _ (λ _. no_block x.answer.notice t) (λ _. refl))

  pub up-other : (l : ℕ) → x.answer.endpoint.local ≢ l → handed_up_in l (x ∷ h) ≡ handed_up_in l h
  unfolding handed_up_in
  up-other l d = add_none (handed_up_in l h) (eq_no _ _ _ _ d)

  pub up-here : handed_up_in x.answer.endpoint.local (x ∷ h) ≡ handed_up_in x.answer.endpoint.local h ++ block_up x.answer.notice
  unfolding handed_up_in
  up-here = ap (λ (bs : List Block). handed_up_in x.answer.endpoint.local h ++ bs) (eq_yes _ _ _ _ refl)

  sent-none : block_accepted x.act ≡ [] → (l d : ℕ) → accepted_for l d (x ∷ h) ≡ accepted_for l d h
  unfolding accepted_for
  sent-none p l d =
      add_none (accepted_for l d h)
      (if-eq (λ (bs : List Block). bs ≡ []) _ _ (λ _. if-eq (λ (bs : List Block). bs ≡ []) _ _ (λ _. p) (λ _. refl)) (λ _. refl))

  sent-other : (l d : ℕ) → x.answer.endpoint.local ≢ l → accepted_for l d (x ∷ h) ≡ accepted_for l d h
  unfolding accepted_for
  sent-other l d p = add_none (accepted_for l d h) (eq_no _ _ _ _ p)

  sent-here : (l d : ℕ) → x.answer.endpoint.local ≡ l → x.answer.endpoint.remote ≡ d
      → accepted_for l d (x ∷ h) ≡ accepted_for l d h ++ block_accepted x.act
  unfolding accepted_for
  sent-here l d p q = ap (λ (bs : List Block). accepted_for l d h ++ bs) (eq_yes _ _ _ _ p ∙ eq_yes _ _ _ _ q)

  -- whatever is accepted joins at the end
  pub sent-more : (l d : ℕ) → (zs : List Block) × (accepted_for l d (x ∷ h) ≡ accepted_for l d h ++ zs)
  unfolding accepted_for
  sent-more l d = (_, refl)

-- Which incarnations have opened: each with one partner, and none that is still to open.
pub record Named (h : History) : Type 0 where
  pub here : (now h).state ≡ 4 → OpenedWith h (now h).local (now h).remote
  pub one : (l d d' : ℕ) → OpenedWith h l d → OpenedWith h l d' → d ≡ d'
  pub below : (l d : ℕ) → OpenedWith h l d → l ≤ (now h).local
  pub past : (d : ℕ) → OpenedWith h (now h).local d → 1 ≤ (now h).state → 4 ≤ (now h).state

-- the call opens the end, with l and d
pub record Opening (x : Event) (l d : ℕ) : Type 0 where
  pub opens : Opens x.before x.answer.endpoint
  pub local_is : x.answer.endpoint.local ≡ l
  pub remote_is : x.answer.endpoint.remote ≡ d

older : (x : Event) {h : History} {l d : ℕ} → OpenedWith h l d → OpenedWith (x ∷ h) l d
older x o = (o.0, Memᴰ.tail o.1, o.2, o.3, o.4)

newest : (x : Event) (h : History) {l d : ℕ} → Opening x l d → OpenedWith (x ∷ h) l d
newest x h o = (x, Memᴰ.head refl, o.opens, o.local_is, o.remote_is)

pub which : (x : Event) (h : History) (l d : ℕ) → OpenedWith (x ∷ h) l d → OpenedWith h l d ⊎ Opening x l d
which x h l d o =
    let new : Opening o.0 l d = record { opens = o.2; local_is = o.3; remote_is = o.4 } in
    ⊎_elim (λ e. inr (subst (λ (y : Event). Opening y l d) e new)) (λ m. inl (o.0, m, o.2, o.3, o.4)) (Memᴰ.cases_cons o.1)

module _ (x : Event) {h : History} (p : x.before ≡ now h) (k : Named h) where
  abbrev y : Endpoint
  y = x.answer.endpoint

  -- what is left to show of the new call
  named-on : ((l d d' : ℕ) → Opening x l d → OpenedWith h l d' → ⊥)
      → (now h).local ≤ y.local
      → ((d : ℕ) → OpenedWith h y.local d → 1 ≤ y.state → 4 ≤ y.state)
      → (y.state ≡ 4 → (now h).state ≡ 4 → (y.local ≡ (now h).local) × (y.remote ≡ (now h).remote))
      → Named (x ∷ h)
  unfolding now
  named-on new le old same = record {
    here = λ e. here e (ℕ_discrete (now h).state 4);
    one = λ l d d' u v. ⊎_elim
        (λ o. ⊎_elim (λ o'. k.one l d d' o o') (λ o'. absurd (new l d' d o' o)) (which x h l d' v))
        (λ o. ⊎_elim (λ o'. absurd (new l d d' o o')) (λ o'. sym o.remote_is ∙ o'.remote_is) (which x h l d' v))
        (which x h l d u);
    below = λ l d u. ⊎_elim (λ o. omega (arith, k.below l d o)) (λ o. omega (arith, o.local_is)) (which x h l d u);
    past = λ d u a. ⊎_elim (λ o. old d o a) (λ o. omega (arith, o.opens.1)) (which x h y.local d u);
  }
    where
      here : y.state ≡ 4 → Dec ((now h).state ≡ 4) → OpenedWith (x ∷ h) y.local y.remote
      here e (yes q) = subst₂ (λ (l d : ℕ). OpenedWith (x ∷ h) l d) (sym (same e q).0) (sym (same e q).1) (older x (k.here q))
      here e (no n) = newest x h (record { opens = (λ q. n (sym (ap (λ (z : Endpoint). z.state) p) ∙ q), e); local_is = refl; remote_is = refl })

  -- a call within an incarnation
  pub named-within : Back (now h) y → Named (x ∷ h)
  named-within r =
      named-on
      (λ l d d' o v.
      let q = r.from4 o.opens.1 (λ z. o.opens.0 (ap (λ (z : Endpoint). z.state) p ∙ z)) in
      let here = subst (λ (n : ℕ). OpenedWith h n d') (sym o.local_is ∙ r.local) v in
      absurd (omega (arith, k.past d' here (omega arith))))
      (omega (arith, r.local))
      (λ d v a. r.past4 (k.past d (subst (λ (n : ℕ). OpenedWith h n d) r.local v) (r.alive a)) a)
      (λ e q. (r.local, r.on4 e q))

  -- a call that begins one, or a restart
  pub named-begun : (now h).local ≤ y.local → (1 ≤ y.state → (now h).local < y.local) → y.state ≤ 3 → Named (x ∷ h)
  named-begun l r s =
      named-on
      (λ l d d' o v. absurd (omega (arith, o.opens.1)))
      l
      (λ d v a. absurd (omega (arith, k.below y.local d v, r a)))
      (λ e q. absurd (omega arith))

-- What an open end has counted, and what waits.
pub record Counts (h : History) : Type 0 where
  pub up : length (handed_up_in (now h).local h) ≡ (now h).delivered
  pub taken : length (accepted_for (now h).local (now h).remote h) ≡ (now h).accepted
  pub queued : drop ((now h).accepted - waiting (now h)) (accepted_for (now h).local (now h).remote h) ≡ (now h).queue

-- a DATA has a block that was accepted, with its number
abbrev Placed : History → Frame → Type 0
Placed h g = g.kind ≡ DATA → Stands (accepted_for g.sender g.quoted h) g.number g.block

pub record Stock (h : History) : Type 0 where
  pub counts : (now h).state ≡ 4 → Counts h
  pub up_none : (l : ℕ) → ((d : ℕ) → OpenedWith h l d → ⊥) → handed_up_in l h ≡ []
  pub above : (l d : ℕ) → (now h).local < l → accepted_for l d h ≡ []
  pub early : (d : ℕ) → 1 ≤ (now h).state → (now h).state ≤ 3 → accepted_for (now h).local d h ≡ []
  pub stands : (g : Frame) → Memᴰ g (sent h) → Placed h g

-- nothing has been handed up in an incarnation that is still to open
pub nothing_up : {h : History} → Named h → Stock h → 1 ≤ (now h).state → (now h).state ≤ 3 → handed_up_in (now h).local h ≡ []
nothing_up {h} nm st p q = st.up_none (now h).local (λ d u. omega (arith, nm.past d u p))

-- only an open end accepts a block
nothing_taken : {e : Endpoint} {f : Frame} {x : Endpoint} {n : Notice} {bs : List Block} → Carry e f x n bs → x.state ≢ 4 → bs ≡ []
nothing_taken (keeps t) u = refl
nothing_taken (clears t t') u = refl
nothing_taken (begins p q t) u = refl
nothing_taken (takes p s) u = refl
nothing_taken (overtakes k r d p a b) u = refl
nothing_taken (releases p q r) u = refl
nothing_taken (queues b p q r) u = absurd (u p)

-- what is said now
places : {h : History} {f : Frame} {o : Sent} → ((now h).state ≡ 4 → Counts h) → length (now h).queue ≤ (now h).accepted → Says (now h) f o
    → Of (Placed h) o
places k w silence = tt
places k w (crao p) = λ e. absurd (omega arith)
places k w (crpo p) = λ e. absurd (omega arith)
places k w (crack p) = λ e. absurd (omega arith)
places k w (rej p q r s) = λ e. absurd (omega arith)
places k w (reset_said p q r s) = λ e. absurd (omega arith)
places k w (dr p) = λ e. absurd (omega arith)
places k w (drack p q) = λ e. absurd (omega arith)
places k w (drack_to_other p q r s) = λ e. absurd (omega arith)
places {h} k w (datum m b p u v q) =
    let at : ℕ = (now h).accepted - waiting (now h) in
    let all : List Block = accepted_for (now h).local (now h).remote h in
    λ e. record {
      below = omega (arith, (k p).taken);
      is =
          ap (λ (n : ℕ). get_or all n []) (omega arith)
          ∙ sym (get_or-drop at all (m - at) [])
          ∙ ap (λ (l : List Block). get_or l (m - at) []) (k p).queued
          ∙ q;
    }
places k w (ack m p q) = λ e. absurd (omega arith)

-- what was said before
placed_on : (x : Event) (h : History) (g : Frame) → Placed h g → Placed (x ∷ h) g
placed_on x h g p e =
    let m = sent-more x h g.sender g.quoted in
    subst (λ (l : List Block). Stands l g.number g.block) (sym m.1) (stands_grow (accepted_for g.sender g.quoted h) m.0 (p e))

-- One more call c at the end h, which sends o.
module _ (c : Act) (o : Sent) (f : Frame) {h : History} (nm : Named h) (st : Stock h) (ld : Laden (now h)) where
  abbrev next : Endpoint → Notice → History
  next x n = event c h (step_to x n o) ∷ h

  abbrev L : ℕ
  L = (now h).local

  abbrev D : ℕ
  D = (now h).remote

  -- the number of the oldest waiting block
  abbrev first : ℕ
  first = (now h).accepted - waiting (now h)

  counts-on : {x : Endpoint} {n : Notice} {bs : List Block} → block_accepted c ≡ bs → Carry (now h) f x n bs → x.state ≡ 4 → Counts (next x n)
  unfolding now
  counts-on s (keeps t) e =
      let k = st.counts e in
      let a = sent-none _ h s L D in
      record {
        up = ap length (up-silent _ h t L) ∙ k.up;
        taken = ap length a ∙ k.taken;
        queued = ap (λ (l : List Block). drop first l) a ∙ k.queued;
      }
  counts-on s (clears {st = x} t u) e = absurd (T_not (eqb x 4) t (subst (λ (n : ℕ). T (eqb n 4)) (sym e) tt))
  counts-on s (begins {d = d} p q t) e =
      let a = sent-none _ h s L d ∙ st.early d (omega arith) q in
      record {
        up = ap length (up-silent _ h t L ∙ nothing_up nm st (omega arith) q);
        taken = ap length a;
        queued = ap (λ (l : List Block). drop 0 l) a;
      }
  counts-on s (takes {b = b} p o) e =
      let u = st.counts p in
      let a = sent-none _ h s L D in
      record {
        up = ap length (up-here _ h) ∙ length-append (handed_up_in L h) (b ∷ []) ∙ ap (λ (k : ℕ). k + 1) u.up;
        taken = ap length a ∙ u.taken;
        queued = ap (λ (l : List Block). drop first l) a ∙ u.queued;
      }
  counts-on s (overtakes k r d p i j) e =
      let u = st.counts p in
      let a = sent-none _ h s L D in
      record {
        up = ap length (up-silent _ h tt L) ∙ u.up;
        taken = ap length a ∙ u.taken;
        queued = ap (λ (l : List Block). drop first l) a ∙ u.queued;
      }
  counts-on s (releases p q r) e =
      let u = st.counts p in
      let a = sent-none _ h s L D in
      let m : ℕ = f.number - first in
      let len = length-drop m (now h).queue in
      let at : (now h).accepted - length (drop m (now h).queue) ≡ first + m = omega (arith, ld.waits) in
      record {
        up = ap length (up-silent _ h tt L) ∙ u.up;
        taken = ap length a ∙ u.taken;
        queued =
            ap (λ (l : List Block). drop ((now h).accepted - length (drop m (now h).queue)) l) a
            ∙ ap (λ (k : ℕ). drop k (accepted_for L D h)) at
            ∙ sym (drop-drop m first (accepted_for L D h))
            ∙ ap (λ (l : List Block). drop m l) u.queued;
      }
  counts-on s (queues b p q r) e =
      let u = st.counts p in
      let l : List Block = accepted_for L D h in
      let a = sent-here _ h L D refl refl ∙ ap (λ (k : List Block). l ++ k) s in
      let len = length-append (now h).queue (b ∷ []) in
      let at : (now h).accepted + 1 - length ((now h).queue ++ (b ∷ [])) ≡ first = omega (arith, ld.waits) in
      record {
        up = ap length (up-silent _ h tt L) ∙ u.up;
        taken = ap length a ∙ length-append l (b ∷ []) ∙ ap (λ (k : ℕ). k + 1) u.taken;
        queued =
            ap (λ (k : List Block). drop ((now h).accepted + 1 - length ((now h).queue ++ (b ∷ []))) k) a
            ∙ ap (λ (k : ℕ). drop k (l ++ (b ∷ []))) at
            ∙ drop-append-le first l (b ∷ []) (omega (arith, u.taken))
            ∙ ap (λ (k : List Block). k ++ (b ∷ [])) u.queued;
      }

  -- nothing is handed up in an incarnation that never opened
  up-none-on : {x : Endpoint} {n : Notice} {bs : List Block} → Carry (now h) f x n bs → (l : ℕ) → ((d : ℕ) → OpenedWith h l d → ⊥)
      → handed_up_in l (next x n) ≡ []
  up-none-on (keeps t) l u = up-silent _ h t l ∙ st.up_none l u
  up-none-on (clears t t') l u = up-silent _ h t' l ∙ st.up_none l u
  up-none-on (begins p q t) l u = up-silent _ h t l ∙ st.up_none l u
  up-none-on (overtakes k r d p a b) l u = up-silent _ h tt l ∙ st.up_none l u
  up-none-on (takes p s) l u =
      up-other _ h l (λ e. u D (subst (λ (m : ℕ). OpenedWith h m D) e (nm.here p)))
      ∙ st.up_none l u
  up-none-on (releases p q r) l u = up-silent _ h tt l ∙ st.up_none l u
  up-none-on (queues b p q r) l u = up-silent _ h tt l ∙ st.up_none l u

  -- a call within an incarnation
  pub stock-within : {x : Endpoint} {n : Notice} → Carry (now h) f x n (block_accepted c) → Says x f o → Back (now h) x → Stock (next x n)
  unfolding now sent
  stock-within {x} k v r = record {
    counts = counts-on refl k;
    up_none = λ l u. up-none-on k l (λ d w. u d (older _ w));
    above = λ l d a. sent-other _ h l d (λ e. omega arith) ∙ st.above l d (omega (arith, r.local));
    early = λ d a b.
        sent-none _ h (nothing_taken k (λ e. omega arith)) x.local d
        ∙ ap (λ (l : ℕ). accepted_for l d h) r.local
        ∙ st.early d (r.early a b).0 (r.early a b).1;
    stands = with_new o (places (counts-on refl k) (load ld k).waits v) (λ g m. placed_on _ h g (st.stands g m));
  }

  -- a call that begins one, or a restart
  pub stock-begun : {x : Endpoint} {n : Notice} → T (silent n) → block_accepted c ≡ [] → Says x f o → L ≤ x.local → (1 ≤ x.state → L < x.local)
      → x.state ≤ 2 → length x.queue ≤ x.accepted → Stock (next x n)
  unfolding now sent
  stock-begun {x} t s v l r p w = record {
    counts = λ e. absurd (omega arith);
    up_none = λ m u. up-silent _ h t m ∙ st.up_none m (λ d w. u d (older _ w));
    above = λ m d a. sent-none _ h s m d ∙ st.above m d (omega arith);
    early = λ d a b. sent-none _ h s x.local d ∙ st.above x.local d (r a);
    stands = with_new o (places (λ e. absurd (omega arith)) w v) (λ g m. placed_on _ h g (st.stands g m));
  }
