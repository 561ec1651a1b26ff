-- The second half of demand 3: the blocks handed up are, in order, the first of those that the partner accepted.
use Prim.Native.Nat.{ℕ, ◌+◌, ◌-◌, ◌≤◌, ◌<◌}
use mathlib.Core.Path.{◌≡◌, refl, sym, subst, subst₂, ◌∙◌, ap}
use mathlib.Core.Logic.{⊎_elim}
use mathlib.Core.List.Memᴰ
use mathlib.Core.List.{List, [], ◌∷◌, Memᴰ}
use native.Mathlib.Omega.{arith}
use native.Mathlib.Decide.{ℕ_discrete}
use lib.Dec.{T, T_not, eqb}
use lib.ListN.{length, get_or}
use Rattle.frame.specs.Frame.{Block, DATA, Frame, control}
use Rattle.protocol.specs.Endpoint.{Endpoint}
use Rattle.protocol.specs.Table.{Notice, handed_up, Sent, delivering}
use Rattle.protocol.specs.Requests.{accept}
use Rattle.protocol.specs.History.{Act, Event, History, now, sent}
use Rattle.protocol.specs.Claim.{handed_up_in, block_accepted, accepted_for, OpenedWith, Prefix, InOrder}
use Rattle.protocol.proofs.Facts.{silent, Laden, Each, none_held_lem, each_moved, each_held, Source, arrives, was_held, Carry, keeps, clears, begins, takes, overtakes, releases, queues, Says, crao, silence, step_to, fires}
use Rattle.protocol.proofs.Calls.{event, Heard, no_frame, from, Deed, refuses, connects, listens, goes, restarts, restart_accepts}
use Rattle.protocol.proofs.Invariant.{Back, back}
use Rattle.protocol.proofs.Blocks.{prefix_grow, Stands, stands_grow, prefix_more, up-silent, up-other, up-here, sent-more}
use Rattle.protocol.proofs.Blocks.{Named, Opening, which, named-within, named-begun, Stock, nothing_up, stock-within, stock-begun}

abbrev Order : History → History → Type 0
Order a b = (l d : ℕ) → OpenedWith a l d → Prefix (handed_up_in l a) (accepted_for d l b)

-- what the end a holds early is what b accepted for it, each block under its number
abbrev Early : History → History → Type 0
Early a b =
    (now a).state ≡ 4 → Each (λ (i : ℕ) (l : Block). Stands (accepted_for (now a).remote (now a).local b) ((now a).delivered + i) l) (now a).held

pub record Flow (a b : History) : Type 0 where
  pub named_a : Named a
  pub named_b : Named b
  pub stock_a : Stock a
  pub stock_b : Stock b
  pub order_a : Order a b
  pub order_b : Order b a
  pub early_a : Early a b
  pub early_b : Early b a

pub swap_flow : {a b : History} → Flow a b → Flow b a
swap_flow w = record {
  named_a = w.named_b;
  named_b = w.named_a;
  stock_a = w.stock_b;
  stock_b = w.stock_a;
  order_a = w.order_b;
  order_b = w.order_a;
  early_a = w.early_b;
  early_b = w.early_a;
}

-- One more call at the end a.
module _ {a b : History} (w : Flow a b) where
  -- what b has handed up stays a prefix while a accepts more
  order-grows : (x : Event) → Order b (x ∷ a)
  order-grows x l d u =
      let m = sent-more x a d l in
      subst (λ (ys : List Block). Prefix (handed_up_in l b) ys) (sym m.1)
      (prefix_grow (handed_up_in l b) (accepted_for d l a) m.0 (w.order_b l d u))

  -- a call that hands nothing up; if it opens an incarnation, nothing was handed up there before
  order-silent : (x : Event) → T (silent x.answer.notice) → ((l d : ℕ) → Opening x l d → handed_up_in l a ≡ []) → Order (x ∷ a) b
  order-silent x t e l d u =
      let ys : List Block = accepted_for d l b in
      subst (λ (xs : List Block). Prefix xs ys) (sym (up-silent x a t l))
      (⊎_elim (w.order_a l d) (λ v. subst (λ (xs : List Block). Prefix xs ys) (sym (e l d v)) (ys, refl)) (which x a l d u))

  -- what b holds early stands while a accepts more
  early-grows : (x : Event) → Early b (x ∷ a)
  early-grows x p i n =
      let m = sent-more x a (now b).remote (now b).local in
      subst (λ (ys : List Block). Stands ys ((now b).delivered + i) (get_or (now b).held i [])) (sym m.1)
      (stands_grow (accepted_for (now b).remote (now b).local a) m.0 (w.early_b p i n))

  -- a block that b accepted for a's incarnation, and its number
  abbrev There : ℕ → Block → Type 0
  There n l = Stands (accepted_for (now a).remote (now a).local b) n l

  -- the block of a DATA that b has sent
  sent-there : {f : Frame} → Memᴰ f (sent b) → f.kind ≡ DATA → f.quoted ≡ (now a).local → f.sender ≡ (now a).remote
      → There f.number f.block
  sent-there {f} m k r s =
      subst₂ (λ (i j : ℕ). Stands (accepted_for i j b) f.number f.block) s r (w.stock_b.stands f m k)

  -- a call that hands up a block
  module _ (c : Act) (o : Sent) (bl : Block) where
    abbrev x : Event
    x = event c a (step_to (delivering (now a)) (handed_up bl) o)

    abbrev L : ℕ
    L = (now a).local

    abbrev D : ℕ
    D = (now a).remote

    order-up : (now a).state ≡ 4 → Stands (accepted_for D L b) (now a).delivered bl → Order (x ∷ a) b
    order-up p z l d u = ⊎_elim (λ v. old v (ℕ_discrete L l)) (λ v. absurd (v.opens.0 p)) (which x a l d u)
      where
        there : Stands (accepted_for D L b) (length (handed_up_in L a)) bl
        there = subst (λ (i : ℕ). Stands (accepted_for D L b) i bl) (sym (w.stock_a.counts p).up) z

        more : Prefix (handed_up_in L (x ∷ a)) (accepted_for D L b)
        more =
            subst (λ (xs : List Block). Prefix xs (accepted_for D L b)) (sym (up-here x a))
            (prefix_more (handed_up_in L a) (accepted_for D L b) bl (w.order_a L D (w.named_a.here p)) there)

        old : OpenedWith a l d → Dec (L ≡ l) → Prefix (handed_up_in l (x ∷ a)) (accepted_for d l b)
        old v (yes e) =
            subst₂ (λ (i j : ℕ). Prefix (handed_up_in i (x ∷ a)) (accepted_for j i b)) e
            (w.named_a.one l D d (subst (λ (i : ℕ). OpenedWith a i D) e (w.named_a.here p)) v) more
        old v (no e) = subst (λ (xs : List Block). Prefix xs (accepted_for d l b)) (sym (up-other x a l e)) (w.order_a l d v)

  opens-empty : {x : Event} → x.before ≡ now a → Back (now a) x.answer.endpoint → (l d : ℕ) → Opening x l d → handed_up_in l a ≡ []
  opens-empty p r l d v =
      let q = r.from4 v.opens.1 (λ z. v.opens.0 (ap (λ (e : Endpoint). e.state) p ∙ z)) in
      ap (λ (k : ℕ). handed_up_in k a) (sym v.local_is ∙ r.local) ∙ nothing_up w.named_a w.stock_a (omega arith) q.1

  sent_by : {f : Frame} → Heard b f → f.kind ≡ DATA → Memᴰ f (sent b)
  sent_by no_frame e = absurd (omega arith)
  sent_by (from m) e = m

  -- the block that is handed up is the next one that b accepted
  next-there : {f : Frame} {bl : Block} → Heard b f → (now a).state ≡ 4 → Source (now a) f bl → There (now a).delivered bl
  next-there {f} h p (arrives k q s n) = subst (λ (i : ℕ). There i f.block) n (sent-there (sent_by h k) k q s)
  next-there h p (was_held e n) =
      let at : (now a).delivered + 0 ≡ (now a).delivered = omega arith in
      subst₂ There at e
      (w.early_a p 0 (subst (λ (l : Block). 1 ≤ length l) (sym e) n))

  order-on : (c : Act) (o : Sent) {f : Frame} → Heard b f → {x : Endpoint} {n : Notice} {bs : List Block} → Carry (now a) f x n bs
      → Back (now a) x → Order (event c a (step_to x n o) ∷ a) b
  order-on c o h (keeps t) r = order-silent _ t (opens-empty refl r)
  order-on c o h (clears t u) r = order-silent _ u (opens-empty refl r)
  order-on c o h (begins p q t) r = order-silent _ t (opens-empty refl r)
  order-on c o h (takes p s) r = order-up c o _ p (next-there h p s)
  order-on c o h (overtakes k q s p i j) r = order-silent _ tt (opens-empty refl r)
  order-on c o h (releases p q s) r = order-silent _ tt (opens-empty refl r)
  order-on c o h (queues b p q s) r = order-silent _ tt (opens-empty refl r)

  -- the places after a call
  early-on : Laden (now a) → (c : Act) (o : Sent) {f : Frame} → Heard b f → {x : Endpoint} {n : Notice} {bs : List Block} → Carry (now a) f x n bs
      → Early (event c a (step_to x n o) ∷ a) b
  unfolding now
  early-on ld c o h (keeps t) = w.early_a
  early-on ld c o h (clears {st = x} t u) = λ p. absurd (T_not (eqb x 4) t (subst (λ (n : ℕ). T (eqb n 4)) (sym p) tt))
  early-on ld c o h (begins p q t) = λ _ i n. none_held_lem i n
  early-on ld c o h (takes p s) = λ _.
      each_moved (λ (i : ℕ) (l : Block). There ((now a).delivered + i) l) (λ (i : ℕ) (l : Block). There ((now a).delivered + 1 + i) l) (now a).held
      (λ i l z. let at : (now a).delivered + (1 + i) ≡ (now a).delivered + 1 + i = omega arith in subst (λ (n : ℕ). There n l) at z)
      (w.early_a p)
  early-on ld c o {f} h (overtakes k q s p u v) = λ _.
      let at : f.number ≡ (now a).delivered + (f.number - (now a).delivered) = omega arith in
      each_held (λ (i : ℕ) (l : Block). There ((now a).delivered + i) l) (f.number - (now a).delivered) f.block (now a).held (omega (arith, ld.eight))
      (subst (λ (n : ℕ). There n f.block) at (sent-there (sent_by h k) k q s)) (w.early_a p)
  early-on ld c o h (releases p q s) = w.early_a
  early-on ld c o h (queues b p q s) = w.early_a

  early-begun : (c : Act) (o : Sent) (x : Endpoint) (n : Notice) → x.state ≤ 2 → Early (event c a (step_to x n o) ∷ a) b
  unfolding now
  early-begun c o x n p e = absurd (omega arith)

  -- a call that begins an incarnation, or a restart
  begun-on : Laden (now a) → (c : Act) (o : Sent) {x : Endpoint} {n : Notice} → T (silent n) → block_accepted c ≡ [] → Says x (control 0 0 0) o
      → (now a).local ≤ x.local → (1 ≤ x.state → (now a).local < x.local) → x.state ≤ 2 → length x.queue ≤ x.accepted
      → Flow (event c a (step_to x n o) ∷ a) b
  begun-on ld c o t s v l r p q = record {
    named_a = named-begun _ refl w.named_a l r (omega arith);
    named_b = w.named_b;
    stock_a = stock-begun c o _ w.named_a w.stock_a ld t s v l r p q;
    stock_b = w.stock_b;
    order_a = order-silent _ t (λ l d u. absurd (omega (arith, u.opens.1)));
    order_b = order-grows _;
    early_a = early-begun c o _ _ p;
    early_b = early-grows _;
  }

  pub flows : Laden (now a) → {c : Act} {a' : History} → Deed a b c a' → Flow a' b
  unfolding accept
  flows ld refuses = w
  flows ld (connects z l e) = begun-on ld _ _ tt (ap block_accepted e) (crao refl) (omega arith) (omega arith) (omega arith) (omega arith)
  flows ld (listens z l e) = begun-on ld _ _ tt (ap block_accepted e) silence (omega arith) (omega arith) (omega arith) (omega arith)
  flows ld {c} (restarts p t l m) = begun-on ld _ _ tt (restart_accepts c t) silence (omega arith) (omega arith) (omega arith) (omega arith)
  flows ld {c} (goes h _ (fires {o = o} m k s)) = record {
    named_a = named-within _ refl w.named_a (back m);
    named_b = w.named_b;
    stock_a = stock-within c o _ w.named_a w.stock_a ld k s (back m);
    stock_b = w.stock_b;
    order_a = order-on c o h k (back m);
    order_b = order-grows _;
    early_a = early-on ld c o h k;
    early_b = early-grows _;
  }

unnamed : Named []
unfolding now
unnamed = record {
  here = λ e. absurd (omega arith);
  one = λ l d d' u v. absurd (Memᴰ.not-nil u.1);
  below = λ l d u. absurd (Memᴰ.not-nil u.1);
  past = λ d u a. absurd (Memᴰ.not-nil u.1);
}

empty : Stock []
unfolding now sent handed_up_in accepted_for
empty = record {
  counts = λ e. absurd (omega arith);
  up_none = λ l u. refl;
  above = λ l d u. refl;
  early = λ d u v. refl;
  stands = λ g m. absurd (Memᴰ.not-nil m);
}

none-early : Early [] []
unfolding now
none-early e = absurd (omega arith)

pub no_flow : Flow [] []
no_flow = record {
  named_a = unnamed;
  named_b = unnamed;
  stock_a = empty;
  stock_b = empty;
  order_a = λ l d u. absurd (Memᴰ.not-nil u.1);
  order_b = λ l d u. absurd (Memᴰ.not-nil u.1);
  early_a = none-early;
  early_b = none-early;
}

pub in_order : {a b : History} → Flow a b → InOrder a b
in_order w = record { opened = w.order_a; never = w.stock_a.up_none }
