-- Blocks that overtake each other come up in sequence. k blocks are up after some of the calls; what is held is right, and each
-- block that has arrived is up or held. Assumes nothing.
use Prim.Native.Nat.{ℕ, zero, suc, ◌+◌, ◌-◌, ◌≤◌, ◌<◌}
use mathlib.Core.Path.{◌≡◌, refl, sym, subst, ap, ◌∙◌}
use mathlib.Core.Logic.{◌⊎◌, inl, inr, ⊎_elim}
use mathlib.Core.Bool.{Bool, true, false}
use mathlib.Core.List.{List, [], ◌∷◌, ◌++◌, map, append-nil, append_assoc}
use mathlib.Core.List.Memᴰ
use mathlib.Core.List.{Memᴰ}
use native.Mathlib.Numerals.{add-one}
use native.Mathlib.Omega.{arith}
use borrow.Author.Tests.{eq-eqb}
use lib.ListN.{length, take, get_or, replicate, get_or-eq_default}
use lib.Seq.{take-suc, take_all}
use Rattle.octets.specs.Sizes.{held_size}
use Rattle.octets.specs.Test.{when, Outcome, refused, ok, first, outcome}
use Rattle.octets.proofs.Test.{if-eq, if-lt, by_eq, eq_yes, eq_no, lt_no}
use Rattle.frame.specs.Frame.{Block, Frame, data_frame, collect}
use Rattle.protocol.specs.declared.Rule.{Rule}
use Rattle.protocol.specs.declared.Rule.TheVariants.{HandUp, Hold, Acknowledge}
use Rattle.protocol.specs.Endpoint.{Endpoint, none_held, sized}
use Rattle.protocol.specs.Table.{data_row, open_rows, when_established, rule, Step, held_at, delivering, apply, step}
use Rattle.protocol.specs.Requests.{request_questions, refusal, collected, accept, request}
use Rattle.protocol.specs.History.{Call, ask, deliver, perform, endpoint_left, call, does, History, now, recorded, after}
use Rattle.protocol.specs.Sequence.{up_of, comes_up, arrival, AllEight, overtaking, EightComeUp, after_all, EightHandedUp}
use Rattle.protocol.specs.Claim.{block_up, handed_up_in}
use Rattle.protocol.proofs.Facts.{Each, none_held_lem, each_moved, each_held, get_d_moved, length_moved, length_held, first_is, held_same, held_other}
use Rattle.protocol.proofs.Facts.{Fires, fires, heard}
use Rattle.protocol.proofs.Calls.{requested, event}
use Rattle.protocol.proofs.Invariant.{back}
use Rattle.protocol.proofs.Blocks.{up-here}
use Rattle.protocol.proofs.Sound.{sized-at}

-- by which of two numbers is less
by_lt : {A : Type 0} (a b : ℕ) → (a < b → A) → (b ≤ a → A) → A
by_lt {A} a b h g = if-lt (λ (b : Bool). A) a b {x = true} {y = false} h g

-- a DATA of the partner at an open end: the row of its number
data_rule : (x : Endpoint) (n : ℕ) (b : Block) → x.state ≡ 4
    → rule x (data_frame x.remote x.local n b) ≡ data_row x (data_frame x.remote x.local n b)
unfolding rule when_established open_rows
data_rule x n b p =
    lt_no _ _ _ _ (omega arith)
    ∙ eq_no _ _ _ _ (λ z. omega arith)
    ∙ eq_no _ _ _ _ (λ z. omega arith)
    ∙ eq_no _ _ _ _ (λ z. omega arith)
    ∙ eq_no _ _ _ _ (λ z. omega arith)
    ∙ eq_yes _ _ _ _ p
    ∙ eq_no _ _ _ _ (λ z. omega arith)
    ∙ eq_yes _ _ _ _ refl
    ∙ eq_yes _ _ _ _ refl
    ∙ eq_no _ _ _ _ (λ z. omega arith)
    ∙ eq_no _ _ _ _ (λ z. omega arith)
    ∙ eq_no _ _ _ _ (λ z. omega arith)
    ∙ eq_yes _ _ _ _ refl

-- a collect at an open end
collect_is : (x : Endpoint) → x.state ≡ 4 → perform (ask collect) x ≡ ok (collected x (get_or x.held 0 []))
unfolding perform request refusal request_questions first outcome accept when
collect_is x p = rw (eq-eqb x.state 4 p) refl

module _ (e : Endpoint) (bs : List Block) (l8 : length bs ≡ 8) (sz : sized bs ≡ true) where
  -- the endpoint x after some of the calls, k blocks being up
  record At (k : ℕ) (x : Endpoint) : Type 0 where
    is_open : x.state ≡ 4
    local_is : x.local ≡ e.local
    remote_is : x.remote ≡ e.remote
    count : x.delivered ≡ e.delivered + k
    most : k ≤ 8
    eight : length x.held ≡ 8
    right : Each (λ (i : ℕ) (b : Block). b ≡ get_or bs (k + i) []) x.held
    none_first : k ≡ 0 → get_or x.held 0 [] ≡ []

  -- block j is up or held
  abbrev Got : ℕ → Endpoint → ℕ → Type 0
  Got k x j = (j < k) ⊎ ((k ≤ j) × (1 ≤ length (get_or x.held (j - k) [])))

  some : (j : ℕ) → j < 8 → 1 ≤ length (get_or bs j [])
  some j h = (sized-at j bs sz (omega arith)).0

  -- the block k comes up
  advance : {k : ℕ} {x : Endpoint} → At k x → k < 8 → At (k + 1) (delivering x)
  advance {k} {x} h l = record {
    is_open = h.is_open;
    local_is = h.local_is;
    remote_is = h.remote_is;
    count = omega (arith, h.count);
    most = omega arith;
    eight = length_moved x.held h.eight;
    right =
        each_moved (λ (i : ℕ) (b : Block). b ≡ get_or bs (k + i) []) (λ (i : ℕ) (b : Block). b ≡ get_or bs (k + 1 + i) []) x.held
        (λ i b p. let at : k + (1 + i) ≡ k + 1 + i = omega arith in p ∙ ap (λ (n : ℕ). get_or bs n []) at)
        h.right;
    none_first = λ z. absurd (omega arith);
  }

  advance-got : (k : ℕ) (x : Endpoint) (i : ℕ) → Got k x i → Got (k + 1) (delivering x) i
  advance-got k x i (inl l) = inl (omega arith)
  advance-got k x i (inr p) =
      by_eq i k (λ z. inl (omega arith))
      (λ z.
      let at : i - k ≡ 1 + (i - (k + 1)) = omega (arith, p.0) in
      let q = subst (λ (n : ℕ). 1 ≤ length (get_or x.held n [])) at p.1 in
      inr (omega (arith, p.0), subst (λ (b : Block). 1 ≤ length b) (sym (get_d_moved x.held (i - (k + 1)))) q))

  take_more : (k : ℕ) → k < 8 → take k bs ++ (get_or bs k [] ∷ []) ≡ take (k + 1) bs
  take_more k h = sym (rw (add-one) (take-suc bs k [] (omega arith)))

  -- what is left of the arrival of block j
  record Next (k : ℕ) (x : Endpoint) (j : ℕ) (o : Outcome Step) : Type 0 where
    now-up : ℕ
    at : At now-up (endpoint_left x o)
    got : Got now-up (endpoint_left x o) j
    still : (i : ℕ) → Got k x i → Got now-up (endpoint_left x o) i
    up : take k bs ++ up_of o ≡ take now-up bs

  module _ {k : ℕ} {x : Endpoint} (h : At k x) (j : ℕ) (j8 : j < 8) where
    abbrev f : Frame
    f = data_frame e.remote e.local (e.delivered + j) (get_or bs j [])

    abbrev P : Rule → Type 0
    P r = Next k x j (ok (apply r x f))

    is-next : e.delivered + j ≡ x.delivered → P HandUp
    unfolding apply up_of
    is-next n =
        let q : j ≡ k = omega (arith, h.count) in
        record {
          now-up = k + 1;
          at = advance h (omega arith);
          got = inl (omega arith);
          still = advance-got k x;
          up = ap (λ (m : ℕ). take k bs ++ (get_or bs m [] ∷ [])) q ∙ take_more k (omega arith);
        }

    is-early : x.delivered < e.delivered + j → P Hold
    unfolding apply up_of
    is-early n =
        let c = h.count in
        let place : ℕ = e.delivered + j - x.delivered in
        let at : place ≡ j - k = omega arith in
        let b : Block = get_or bs j [] in
        let fits : place < length x.held = omega (arith, h.eight) in
        let there : 1 ≤ length (get_or (held_at place b x.held) place []) =
        subst (λ (l : Block). 1 ≤ length l) (sym (held_same place b x.held fits))
        (first_is (λ (l : Block). 1 ≤ length l) (get_or x.held place []) b (λ s. s) (some j j8)) in
        record {
          now-up = k;
          at = record {
            is_open = h.is_open;
            local_is = h.local_is;
            remote_is = h.remote_is;
            count = h.count;
            most = h.most;
            eight = length_held place b x.held ∙ h.eight;
            right =
                each_held (λ (i : ℕ) (l : Block). l ≡ get_or bs (k + i) []) place b x.held fits
                (let z : j ≡ k + place = omega arith in ap (λ (m : ℕ). get_or bs m []) z) h.right;
            none_first = λ z. held_other place 0 b x.held (λ y. omega arith) ∙ h.none_first z;
          };
          got = inr (omega arith, subst (λ (m : ℕ). 1 ≤ length (get_or (held_at place b x.held) m [])) at there);
          still = λ i g. ⊎_elim (λ l. inl l)
              (λ p. inr (
                p.0,
                by_eq (i - k) place (λ z. subst (λ (m : ℕ). 1 ≤ length (get_or (held_at place b x.held) m [])) (sym z) there)
                    (λ z. subst (λ (l : Block). 1 ≤ length l) (sym (held_other place (i - k) b x.held z)) p.1),
              ))
              g;
          up = append-nil (take k bs);
        }

    is-old : e.delivered + j < x.delivered → P Acknowledge
    unfolding apply up_of
    is-old n = record {
      now-up = k;
      at = h;
      got = inl (omega (arith, h.count));
      still = λ i g. g;
      up = append-nil (take k bs);
    }

    arrives : Next k x j (perform (arrival e bs j) x)
    unfolding perform step data_row
    arrives =
        let c = h.count in
        let g : Frame = data_frame x.remote x.local (e.delivered + j) (get_or bs j []) in
        let same : g ≡ f = cc in
        let r : rule x f ≡ data_row x f =
        subst (λ (y : Frame). rule x y ≡ data_row x y) same (data_rule x (e.delivered + j) (get_or bs j []) h.is_open) in
        subst P (sym r)
        (if-eq P (e.delivered + j) x.delivered is-next
        (λ d. if-lt P (e.delivered + j) x.delivered is-old
        (λ l. if-lt P (e.delivered + j) (x.delivered + held_size) (λ m. is-early (omega arith)) (λ m. absurd (omega arith)))))

  -- after all the arrivals
  record After (k : ℕ) (x : Endpoint) (order : List ℕ) (rest : List Call) : Type 0 where
    then-up : ℕ
    then_is : Endpoint
    at : At then-up then_is
    got : (i : ℕ) → Memᴰ i order → Got then-up then_is i
    still : (i : ℕ) → Got k x i → Got then-up then_is i
    up : take k bs ++ comes_up (map (arrival e bs) order ++ rest) x ≡ take then-up bs ++ comes_up rest then_is

  all-arrive : {k : ℕ} {x : Endpoint} → At k x → (order : List ℕ) → ((i : ℕ) → Memᴰ i order → i < 8) → (rest : List Call) → After k x order rest
  unfolding comes_up
  all-arrive {k} {x} h [] only rest =
      record { then-up = k; then_is = x; at = h; got = λ i m. absurd (Memᴰ.not-nil m); still = λ i g. g; up = refl }
  all-arrive {k} {x} h (j ∷ order) only rest =
      let o = perform (arrival e bs j) x in
      let n = arrives h j (only j (Memᴰ.head refl)) in
      let a = all-arrive {k = n.now-up} {x = endpoint_left x o} n.at order (λ i m. only i (Memᴰ.tail m)) rest in
      record {
        then-up = a.then-up;
        then_is = a.then_is;
        at = a.at;
        got = λ i m. ⊎_elim (λ z. a.still i (subst (λ (y : ℕ). Got n.now-up (endpoint_left x o) y) (sym z) n.got)) (λ t. a.got i t) (Memᴰ.cases_cons m);
        still = λ i g. a.still i (n.still i g);
        up =
            sym (append_assoc (take k bs) (up_of o) (comes_up (map (arrival e bs) order ++ rest) (endpoint_left x o)))
            ∙ ap (λ (l : List Block). l ++ comes_up (map (arrival e bs) order ++ rest) (endpoint_left x o)) n.up
            ∙ a.up;
      }

  past_end : get_or bs 8 [] ≡ []
  past_end = get_or-eq_default bs [] {n = 8} (omega arith)

  -- block k is held
  ready : (k : ℕ) (x : Endpoint) → Got k x k → 1 ≤ length (get_or x.held 0 [])
  ready k x (inl l) = absurd (omega arith)
  ready k x (inr p) = let z : k - k ≡ 0 = omega arith in subst (λ (n : ℕ). 1 ≤ length (get_or x.held n [])) z p.1

  -- m collects, enough for all that are held
  abbrev Enough : ℕ → Type 0
  Enough m =
      (k : ℕ) (x : Endpoint) → At k x → ((i : ℕ) → i < 8 → Got k x i) → 8 ≤ k + m → take k bs ++ comes_up (replicate m (ask collect)) x ≡ bs

  -- one of them, and m more
  one-collected : (m : ℕ) → Enough m → {k : ℕ} {x : Endpoint} → At k x → ((i : ℕ) → i < 8 → Got k x i) → 8 ≤ k + suc m
      → (b : Block) → get_or x.held 0 [] ≡ b
      → take k bs ++ (up_of (ok (collected x b)) ++ comes_up (replicate m (ask collect)) (endpoint_left x (ok (collected x b)))) ≡ bs
  unfolding collected up_of
  one-collected m more {k} {x} h g l [] p = more k x h g (omega (arith, done))
    where
      done : 8 ≤ k
      done = by_lt k 8 (λ z. absurd (omega (arith, ready k x (g k z), ap length p))) (λ z. z)
  one-collected m more {k} {x} h g l (y ∷ b) p =
      let rest : List Block = comes_up (replicate m (ask collect)) (delivering x) in
      sym (append_assoc (take k bs) ((y ∷ b) ∷ []) rest)
      ∙ ap (λ (c : Block). (take k bs ++ (c ∷ [])) ++ rest) is
      ∙ ap (λ (c : List Block). c ++ rest) (take_more k below)
      ∙ more (k + 1) (delivering x) (advance h below) (λ i z. advance-got k x i (g i z)) (omega arith)
    where
      is : y ∷ b ≡ get_or bs k []
      is =
          let z : k + 0 ≡ k = omega arith in
          sym p ∙ h.right 0 (omega (arith, ap length p)) ∙ ap (λ (n : ℕ). get_or bs n []) z

      below : k < 8
      below =
          by_eq k 8 (λ z. absurd (omega (arith, ap length (is ∙ ap (λ (n : ℕ). get_or bs n []) z ∙ past_end)))) (λ z. omega (arith, h.most))

  all-collected : (m : ℕ) → Enough m
  unfolding comes_up
  all-collected zero k x h g l = append-nil (take k bs) ∙ take_all k bs (omega (arith, h.most))
  all-collected (suc m) k x h g l =
      subst (λ (o : Outcome Step). take k bs ++ (up_of o ++ comes_up (replicate m (ask collect)) (endpoint_left x o)) ≡ bs) (sym (collect_is x h.is_open))
      (one-collected m (all-collected m) h g l (get_or x.held 0 []) refl)

  starts : e.state ≡ 4 → e.held ≡ none_held → At 0 e
  starts p n = record {
    is_open = p;
    local_is = refl;
    remote_is = refl;
    count = omega arith;
    most = omega arith;
    eight = ap length n;
    right = subst (λ (l : List Block). Each (λ (i : ℕ) (b : Block). b ≡ get_or bs (0 + i) []) l) (sym n) (λ i z. none_held_lem i z);
    none_first = λ _. ap (λ (l : List Block). get_or l 0 []) n;
  }

  comes-up : e.state ≡ 4 → e.held ≡ none_held → (order : List ℕ) → AllEight order
      → comes_up (map (arrival e bs) order ++ replicate 7 (ask collect)) e ≡ bs
  comes-up p n order o = a.up ∙ all-collected 7 a.then-up a.then_is a.at (λ i z. a.got i (o.each i z)) (omega (arith, one_up))
    where
      a : After 0 e order (replicate 7 (ask collect))
      a = all-arrive (starts p n) order o.only (replicate 7 (ask collect))

      one_up : 1 ≤ a.then-up
      one_up =
          by_eq a.then-up 0
          (λ z.
          let g = subst (λ (k : ℕ). Got k a.then_is 0) z (a.got 0 (o.each 0 (omega arith))) in
          absurd (omega (arith, ready 0 a.then_is g, ap length (a.at.none_first z))))
          (λ z. omega arith)

pub in_sequence : EightComeUp
in_sequence e n = record { comes = λ bs order l8 sz o. comes-up e bs l8 sz n.is_open n.none_held order o }

-- In the words of demand 3. None of these calls begins an incarnation.
abbrev Steady : List Call → Type 0
Steady [] = Unit {0}
Steady (c ∷ cs) = ((e : Endpoint) → (endpoint_left e (perform c e)).local ≡ e.local) × Steady cs

fired : {e : Endpoint} {f : Frame} {bs : List Block} {x : Step} → Fires e f bs x → x.endpoint.local ≡ e.local
fired (fires m k s) = (back m).local

steady_delivery : (f : Frame) (e : Endpoint) → (endpoint_left e (perform (deliver f) e)).local ≡ e.local
unfolding perform
steady_delivery f e = fired (heard e f)

steady_collect : (e : Endpoint) → (endpoint_left e (perform (ask collect) e)).local ≡ e.local
unfolding perform accept collected
steady_collect e = requested (λ (o : Outcome Step). (endpoint_left e o).local ≡ e.local) collect e (λ n. refl) (λ y. one (get_or e.held 0 []))
  where
    one : (b : Block) → (collected e b).endpoint.local ≡ e.local
    one [] = refl
    one (x ∷ b) = refl

steady_collects : (m : ℕ) → Steady (replicate m (ask collect))
steady_collects zero = tt
steady_collects (suc m) = (steady_collect, steady_collects m)

steady_all : (e : Endpoint) (bs : List Block) (order : List ℕ) → Steady (overtaking e bs order)
steady_all e bs [] = steady_collects 7
steady_all e bs (j ∷ order) = (steady_delivery _, steady_all e bs order)

-- one call more
module _ (c : Call) (h : History) where
  now-endpoint_left : (o : Outcome Step) → now (recorded (ok (call c)) o h) ≡ endpoint_left (now h) o
  unfolding recorded now
  now-endpoint_left (refused n) = refl
  now-endpoint_left (ok x) = refl

  one_up : (o : Outcome Step) → (endpoint_left (now h) o).local ≡ (now h).local
      → handed_up_in (now h).local (recorded (ok (call c)) o h) ≡ handed_up_in (now h).local h ++ up_of o
  unfolding recorded up_of
  one_up (refused n) e = sym (append-nil (handed_up_in (now h).local h))
  one_up (ok x) e = subst (λ (k : ℕ). handed_up_in k (event (call c) h x ∷ h) ≡ handed_up_in k h ++ block_up x.notice) e (up-here (event (call c) h x) h)

all_up : (cs : List Call) → Steady cs → (h : History) (l : ℕ) → (now h).local ≡ l → handed_up_in l (after_all cs h) ≡ handed_up_in l h ++ comes_up cs (now h)
unfolding after_all comes_up after does
all_up [] t h l e = sym (append-nil (handed_up_in l h))
all_up (c ∷ cs) t h l e =
    let o = perform c (now h) in
    let n = now-endpoint_left c h o in
    let s = t.0 (now h) in
    let u : handed_up_in l (recorded (ok (call c)) o h) ≡ handed_up_in l h ++ up_of o = subst (λ (k : ℕ). handed_up_in k (recorded (ok (call c)) o h) ≡ handed_up_in k h ++ up_of o) e (one_up c h o s) in
    all_up cs t.1 (recorded (ok (call c)) o h) l (ap (λ (x : Endpoint). x.local) n ∙ s ∙ e)
    ∙ ap (λ (x : Endpoint). handed_up_in l (recorded (ok (call c)) o h) ++ comes_up cs x) n
    ∙ ap (λ (x : List Block). x ++ comes_up cs (endpoint_left (now h) o)) u
    ∙ append_assoc (handed_up_in l h) (up_of o) (comes_up cs (endpoint_left (now h) o))

pub handed_in_sequence : EightHandedUp
handed_in_sequence h n = record {
  hands = λ bs order l8 sz o.
      all_up (overtaking (now h) bs order) (steady_all (now h) bs order) h (now h).local refl
      ∙ ap (λ (x : List Block). handed_up_in (now h).local h ++ x) ((in_sequence (now h) n).comes bs order l8 sz o);
}
