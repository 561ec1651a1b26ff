-- A program hands on the text of its input.
use Prim.Native.Nat.{ℕ, ◌+◌, ◌-◌, ◌≤◌, ◌<◌}
use mathlib.Core.Path.{◌≡◌, refl, sym, ap, subst, ◌∙◌}
use mathlib.Core.Logic.{◌≢◌}
use mathlib.Core.List.{List, [], ◌∷◌, ◌++◌, append_assoc, append-nil}
use native.Mathlib.Omega.{arith}
use lib.ListN.{length, take, drop}
use lib.Seq.{length-take-le, take-add, drop-drop}
use Rattle.octets.proofs.Test.{by_eq, eq_yes, eq_no, lt_yes, lt_no}
use Rattle.line_split.specs.Split.{ended, unfinished, cut}
use Rattle.line_io.specs.declared.Place.{Place}
use Rattle.line_io.specs.Answering.{Answering, Cuts, state_after, answers, input_text}
use Rattle.line_io.specs.Place.{buffer_size, PlaceFits, Starts, between}
use Rattle.line_io.specs.Step.{Rests, Stepped}
use Rattle.line_io.specs.Program.{handed, brought, Run, starts, steps, Ran, Over, concat}
use Rattle.line_io.specs.Claim.{WholeText, AtOnce}
use Rattle.line_io.proofs.Answers.{Fed, fed-more, fed-whole}
use Rattle.line_io.proofs.Steps.{by_lt}

-- parts of the input at hand
between_more : (f g h : ℕ) (s : List ℕ) → f ≤ g → g ≤ h → between f h s ≡ between f g s ++ between g h s
between_more f g h s x y =
    let e : h - f ≡ (g - f) + (h - g) = omega arith in
    let d : f + (g - f) ≡ g = omega arith in
    rw (e, take-add (g - f) (h - g) (drop f s), drop-drop (g - f) f s, d) refl

used_up : (f t : ℕ) (s : List ℕ) → f ≡ t → between f t s ≡ []
used_up f t s h = let e : t - f ≡ 0 = omega arith in rw e refl

from_start : (f t : ℕ) (s : List ℕ) → f ≡ 0 → between f t s ≡ take t s
from_start f t s z = let e : t - 0 ≡ t = omega arith in rw (z, e) refl

-- pieces, with none or one more
joined_none : (k l : List (List ℕ)) → l ≡ [] → concat (k ++ l) ≡ concat k
joined_none k l e = ap (λ (x : List (List ℕ)). concat (k ++ x)) e ∙ ap concat (append-nil k)

joined_snoc : (k : List (List ℕ)) (t : List ℕ) → concat (k ++ (t ∷ [])) ≡ concat k ++ t
unfolding concat
joined_snoc [] t = append-nil t
joined_snoc (x ∷ k) t = ap (λ (y : List ℕ). x ++ y) (joined_snoc k t) ∙ sym (append_assoc x (concat k) t)

joined_one : (k : List (List ℕ)) {l : List (List ℕ)} {t : List ℕ} → l ≡ t ∷ [] → concat (k ++ l) ≡ concat k ++ t
joined_one k {l} {t} e = ap (λ (x : List (List ℕ)). concat (k ++ x)) e ∙ joined_snoc k t

over_none : (k l : List (List ℕ)) → l ≡ [] → (Over k → ⊥) → Over (k ++ l) → ⊥
over_none k l e h o = h (subst Over (ap (λ (x : List (List ℕ)). k ++ x) e ∙ append-nil k) o)

over_snoc : (k : List (List ℕ)) (t : List ℕ) → length t ≢ 0 → (Over k → ⊥) → Over (k ++ (t ∷ [])) → ⊥
unfolding Over
over_snoc [] [] n h o = n refl
over_snoc [] (x ∷ t) n h o = o
over_snoc ([] ∷ k) t n h o = h tt
over_snoc ((x ∷ y) ∷ k) t n h o = over_snoc k t n h o

over_one : (k : List (List ℕ)) {l : List (List ℕ)} {t : List ℕ} → l ≡ t ∷ [] → length t ≢ 0 → (Over k → ⊥) → Over (k ++ l) → ⊥
over_one k {l} {t} e n h o = over_snoc k t n h (subst Over (ap (λ (x : List (List ℕ)). k ++ x) e) o)

-- As long as the input lasts: all that was read is used or at hand, and what was handed on and what waits answers the lines that the used part ends.
record Lasting (a : Answering) (s₀ s : a.State) (buf line out : List ℕ) (p : Place) (pieces texts : List (List ℕ)) : Type 0 where
  pub used : List ℕ
  pub all : concat pieces ≡ used ++ between p.at p.end buf
  pub fed : Fed a s₀ [] used s (take p.kept line) (concat texts ++ take p.filled out)
  pub more : Over pieces → ⊥

-- Then: what was handed on and what waits is the text of the input.
record Last (a : Answering) (s₀ : a.State) (out : List ℕ) (p : Place) (pieces texts : List (List ℕ)) : Type 0 where
  pub at : p.at ≡ p.end
  pub few : p.steps ≤ 1
  pub done : p.steps ≡ 0 → p.filled ≡ 0
  pub text : concat texts ++ take p.filled out ≡ input_text a s₀ (concat pieces)

data SoFar (a : Answering) (s₀ s : a.State) (buf line out : List ℕ) (p : Place) (pieces texts : List (List ℕ)) : Type 0 where
  lasts : Lasting a s₀ s buf line out p pieces texts → SoFar a s₀ s buf line out p pieces texts
  over : Last a s₀ out p pieces texts → SoFar a s₀ s buf line out p pieces texts

-- One step more, in each of its cases.
module _ {a : Answering} (c : Cuts a) (room : ℕ) (s₀ s s' : a.State) (buf line out buf' line' out' : List ℕ) (p q : Place) (pieces texts : List (List ℕ))
    (w : Stepped a room s buf line out p s' buf' line' out' q) where
  abbrev Before : Type 0
  Before = Lasting a s₀ s buf line out p pieces texts

  abbrev After : Type 0
  After = Lasting a s₀ s' buf' line' out' q (pieces ++ brought p buf' q) (texts ++ handed room out p)

  abbrev AtEnd : Type 0
  AtEnd = Last a s₀ out' q (pieces ++ brought p buf' q) (texts ++ handed room out p)

  -- input is left: nothing is read,
  reads_none : p.at ≢ p.end → brought p buf' q ≡ []
  unfolding brought
  reads_none h = eq_no p.at p.end _ _ h

  -- and room is left, or not
  lasts-went : p.at ≢ p.end → p.filled + room ≤ buffer_size → Before → After
  unfolding handed
  lasts-went h r l =
      let g = w.went h r in
      let x = between p.at q.at buf in
      let k = take p.kept line in
      let n : handed room out p ≡ [] = eq_no p.at p.end _ _ h ∙ lt_no buffer_size (p.filled + room) _ _ r in
      let f : Fed a s₀ [] (l.used ++ x) s' (take q.kept line') ((concat texts ++ take p.filled out) ++ answers a s (ended k x)) =
      fed-more c l.fed (record { state = g.state; part = g.part; told = refl }) in
      let i : between q.at p.end buf ≡ between q.at q.end buf' = rw (g.end, g.input) refl in
      record {
        used = l.used ++ x;
        all = joined_none pieces _ (reads_none h) ∙ l.all
            ∙ ap (λ (y : List ℕ). l.used ++ y) (between_more p.at q.at p.end buf (omega (arith, g.on)) (omega (arith, g.end, w.fits.used)))
            ∙ sym (append_assoc l.used x (between q.at p.end buf))
            ∙ ap (λ (y : List ℕ). (l.used ++ x) ++ y) i;
        fed = record {
          state = f.state;
          part = f.part;
          told = ap (λ (y : List ℕ). y ++ take q.filled out') (joined_none texts _ n)
              ∙ ap (λ (y : List ℕ). concat texts ++ y) g.told
              ∙ sym (append_assoc (concat texts) (take p.filled out) (answers a s (ended k x)))
              ∙ f.told;
        };
        more = over_none pieces _ (reads_none h) l.more;
      }

  -- where what waits is handed on, and what is held stays
  hands-all : handed room out p ≡ take p.filled out ∷ [] → q.filled ≡ 0
      → concat (texts ++ handed room out p) ++ take q.filled out' ≡ concat texts ++ take p.filled out
  hands-all e z =
      ap (λ (y : List ℕ). y ++ take q.filled out') (joined_one texts e) ∙ ap (λ (n : ℕ). (concat texts ++ take p.filled out) ++ take n out') z
      ∙ append-nil (concat texts ++ take p.filled out)

  fed-rests : handed room out p ≡ take p.filled out ∷ [] → Rests a s line p s' line' q → (l : Before)
      → Fed a s₀ [] l.used s' (take q.kept line') (concat (texts ++ handed room out p) ++ take q.filled out')
  fed-rests e r l = record { state = r.state ∙ l.fed.state; part = r.part ∙ l.fed.part; told = hands-all e r.filled ∙ l.fed.told }

  lasts-wrote : p.at ≢ p.end → buffer_size < p.filled + room → Before → After
  unfolding handed
  lasts-wrote h r l =
      let g = w.wrote h r in
      let i : between p.at p.end buf ≡ between q.at q.end buf' = rw (g.input, g.at, g.end) refl in
      record {
        used = l.used;
        all = joined_none pieces _ (reads_none h) ∙ l.all ∙ ap (λ (y : List ℕ). l.used ++ y) i;
        fed = fed-rests (eq_no p.at p.end _ _ h ∙ lt_yes buffer_size (p.filled + room) _ _ r) g.rests l;
        more = over_none pieces _ (reads_none h) l.more;
      }

  -- the input at hand is used up
  module _ (h : p.at ≡ p.end) where
    hands : handed room out p ≡ take p.filled out ∷ []
    unfolding handed
    hands = eq_yes p.at p.end _ _ h

    all-used : (l : Before) → concat pieces ≡ l.used
    all-used l = l.all ∙ ap (λ (y : List ℕ). l.used ++ y) (used_up p.at p.end buf h) ∙ append-nil l.used

    reads_nothing : q.steps ≡ 0 → brought p buf' q ≡ []
    unfolding brought
    reads_nothing z = eq_yes p.at p.end _ _ h ∙ eq_yes q.steps 0 _ _ z

    reads-piece : q.steps ≢ 0 → brought p buf' q ≡ take q.end buf' ∷ []
    unfolding brought
    reads-piece n = eq_yes p.at p.end _ _ h ∙ eq_no q.steps 0 _ _ n

    lasts-stopped : q.steps ≡ 0 → Before → After
    lasts-stopped z l =
        let g = w.stopped h z in
        record {
          used = l.used;
          all = joined_none pieces _ (reads_nothing z) ∙ l.all
              ∙ ap (λ (y : List ℕ). l.used ++ y) (used_up p.at p.end buf h ∙ sym (used_up q.at q.end buf' (g.at ∙ h ∙ sym g.end)));
          fed = fed-rests hands g.rests l;
          more = over_none pieces _ (reads_nothing z) l.more;
        }

    lasts-read : q.steps ≢ 0 → q.end ≢ 0 → Before → After
    lasts-read n m l =
        let g = w.read_on h n m in
        record {
          used = l.used;
          all = joined_one pieces (reads-piece n) ∙ ap (λ (y : List ℕ). y ++ take q.end buf') (all-used l)
              ∙ ap (λ (y : List ℕ). l.used ++ y) (sym (from_start q.at q.end buf' g.at));
          fed = fed-rests hands g.rests l;
          more = over_one pieces (reads-piece n) (λ z. m (sym (length-take-le q.end buf' g.end) ∙ z)) l.more;
        }

    ends_now : q.steps ≢ 0 → q.end ≡ 0 → Before → AtEnd
    ends_now n m l =
        let g = w.finished h n m in
        let i : concat (pieces ++ brought p buf' q) ≡ concat pieces =
        joined_one pieces (reads-piece n) ∙ ap (λ (y : ℕ). concat pieces ++ take y buf') m ∙ append-nil (concat pieces) in
        record {
          at = g.at ∙ sym m;
          few = omega (arith, g.steps);
          done = λ z. absurd (n z);
          text = ap (λ (y : List ℕ). y ++ take q.filled out') (joined_one texts hands)
              ∙ ap (λ (y : List ℕ). (concat texts ++ take p.filled out) ++ y) g.told
              ∙ fed-whole c l.fed ∙ ap (input_text a s₀) (sym (all-used l) ∙ sym i);
        }

    ended-stopped : q.steps ≡ 0 → Last a s₀ out p pieces texts → AtEnd
    ended-stopped z l =
        let g = w.stopped h z in
        record {
          at = g.at ∙ h ∙ sym g.end;
          few = omega (arith, z);
          done = λ _. g.rests.filled;
          text = hands-all hands g.rests.filled ∙ l.text ∙ ap (input_text a s₀) (sym (joined_none pieces _ (reads_nothing z)));
        }

    -- before a read, what was handed on answers every line that has ended
    all-answered : q.steps ≢ 0 → SoFar a s₀ s buf line out p pieces texts → concat (texts ++ handed room out p) ≡ answers a s₀ (ended [] (concat pieces))
    all-answered n (lasts l) = joined_one texts hands ∙ l.fed.told ∙ ap (λ (y : List ℕ). answers a s₀ (ended [] y)) (sym (all-used l))
    all-answered n (over l) = absurd (n (omega (arith, w.less, l.few)))

  so_far_more : SoFar a s₀ s buf line out p pieces texts → SoFar a s₀ s' buf' line' out' q (pieces ++ brought p buf' q) (texts ++ handed room out p)
  so_far_more (lasts l) =
      by_eq p.at p.end
      (λ h. by_eq q.steps 0 (λ z. lasts (lasts-stopped h z l)) (λ n. by_eq q.end 0 (λ m. over (ends_now h n m l)) (λ m. lasts (lasts-read h n m l))))
      (λ h. by_lt buffer_size (p.filled + room) (λ r. lasts (lasts-wrote h r l)) (λ r. lasts (lasts-went h r l)))
  so_far_more (over l) = over (ended-stopped l.at (omega (arith, w.less, l.few)) l)

-- the loop of a program: its start, one step more, and that its place is in range
module _ {a : Answering} {room : ℕ} where
  pub ran-none : {s₀ s : a.State} (buf line out : List ℕ) {p : Place} → s ≡ s₀ → Starts p → Ran a room s₀ s buf line out p
  ran-none {s₀} buf line out {p} e g = subst (λ (x : a.State). Ran a room s₀ x buf line out p) (sym e) (record { pieces = []; texts = []; run = starts g })

  pub ran-more : {s₀ s s' : a.State} {buf line out buf' line' out' : List ℕ} {p q : Place} → Ran a room s₀ s buf line out p → 0 < p.steps
      → Stepped a room s buf line out p s' buf' line' out' q → Ran a room s₀ s' buf' line' out' q
  ran-more r g w = record { pieces = _; texts = _; run = steps r.run g w }

  run_fits : {s₀ s : a.State} {buf line out : List ℕ} {p : Place} {pieces texts : List (List ℕ)} → Run a room s₀ s buf line out p pieces texts → PlaceFits p
  run_fits (starts g) =
      record {
        used = omega (arith, g.at);
        read = omega (arith, g.end);
        kept = omega (arith, g.kept);
        filled = omega (arith, g.filled);
      }
  run_fits (steps r g w) = w.fits

  pub ran-fits : {s₀ s : a.State} {buf line out : List ℕ} {p : Place} → Ran a room s₀ s buf line out p → PlaceFits p
  ran-fits r = run_fits r.run

module _ {a : Answering} (c : Cuts a) where
  so_far : {room : ℕ} {s₀ s : a.State} {buf line out : List ℕ} {p : Place} {pieces texts : List (List ℕ)} → Run a room s₀ s buf line out p pieces texts
      → SoFar a s₀ s buf line out p pieces texts
  unfolding concat Over ended unfinished state_after answers cut
  so_far (starts {buf = buf} {p = p} g) =
      lasts (record {
        used = [];
        all = sym (used_up p.at p.end buf (g.at ∙ sym g.end));
        fed = record { state = refl; part = rw g.kept refl; told = rw g.filled refl };
        more = λ o. o;
      })
  so_far {room = room} {s₀ = s₀} (steps {s} {s'} {buf} {line} {out} {buf'} {line'} {out'} {p} {q} {pieces} {texts} r g w) =
      so_far_more c room s₀ s s' buf line out buf' line' out' p q pieces texts w (so_far r)

  whole : {s₀ s : a.State} {buf line out : List ℕ} {p : Place} {pieces texts : List (List ℕ)} → SoFar a s₀ s buf line out p pieces texts → p.steps ≡ 0 → Over pieces
      → concat texts ≡ input_text a s₀ (concat pieces)
  whole (lasts l) z o = absurd (l.more o)
  whole {out = out} {texts = texts} (over l) z o =
      sym (ap (λ (n : ℕ). concat texts ++ take n out) (l.done z) ∙ append-nil (concat texts)) ∙ l.text

  -- the text of the input is handed on whole, and each answer at once
  pub program-run : {room : ℕ} {s₀ : a.State} → WholeText a room s₀
  program-run s buf line out p w z o = whole (so_far w.run) z o

  pub at_once : {room : ℕ} {s₀ : a.State} → AtOnce a room s₀
  at_once {room} {s₀} s s' buf line out buf' line' out' p q r w h n =
      all-answered c room s₀ s s' buf line out buf' line' out' p q r.pieces r.texts w h n (so_far r.run)
