-- The answers to lines that come in pieces, are cut, or have capitals.
use Prim.Native.Nat.{ℕ}
use mathlib.Core.Path.{◌≡◌, refl, sym, ap, ◌∙◌}
use mathlib.Core.List.{List, [], ◌∷◌, ◌++◌, append_assoc, map}
use native.Mathlib.Omega.{arith}
use lib.ListN.{length}
use Rattle.hexadecimal.specs.Line.{normal}
use Rattle.line_split.specs.Split.{ended, unfinished, last, lines_of, cut}
use Rattle.line_split.proofs.Split.{ended-append, begun-append, ended-cut, begun-cut, cut-cut}
use Rattle.line_split.proofs.Case.{lines_normal}
use Rattle.line_io.specs.Answering.{Answering, Cuts, state_after, answers, input_text}

module _ (a : Answering) where
  pub answers-append : (s : a.State) (k l : List (List ℕ)) → answers a s (k ++ l) ≡ answers a s k ++ answers a (state_after a s k) l
  unfolding answers state_after
  answers-append s [] l = refl
  answers-append s (x ∷ k) l =
      ap (λ (t : List ℕ). a.says s x ++ t) (answers-append (a.next s x) k l) ∙ sym (append_assoc (a.says s x) _ _)

  after-append : (s : a.State) (k l : List (List ℕ)) → state_after a s (k ++ l) ≡ state_after a (state_after a s k) l
  unfolding state_after
  after-append s [] l = refl
  after-append s (x ∷ k) l = after-append (a.next s x) k l

last_alike : (k l : List ℕ) → cut k ≡ cut l → map cut (last k) ≡ map cut (last l)
unfolding cut last
last_alike [] [] e = refl
last_alike [] (y ∷ l) e = absurd (omega (arith, ap length e))
last_alike (x ∷ k) [] e = absurd (omega (arith, ap length e))
last_alike (x ∷ k) (y ∷ l) e = ap (λ (t : List ℕ). t ∷ []) e

-- What is made of some of the input: the state, what is kept of the line that it begins, and the text that answers the lines that it ends.
pub record Fed (a : Answering) (s : a.State) (kept used : List ℕ) (s' : a.State) (kept' text : List ℕ) : Type 0 where
  pub state : s' ≡ state_after a s (ended kept used)
  pub part : kept' ≡ cut (unfinished kept used)
  pub told : text ≡ answers a s (ended kept used)

-- Where a line counts as what f makes of it, so do many.
module _ (a : Answering) (f : List ℕ → List ℕ) (next : (s : a.State) (l : List ℕ) → a.next s (f l) ≡ a.next s l) where
  pub after-each : (s : a.State) (ls : List (List ℕ)) → state_after a s (map f ls) ≡ state_after a s ls
  unfolding state_after
  after-each s [] = refl
  after-each s (l ∷ ls) = ap (λ (t : a.State). state_after a t (map f ls)) (next s l) ∙ after-each (a.next s l) ls

  pub answers-each : ((s : a.State) (l : List ℕ) → a.says s (f l) ≡ a.says s l) → (s : a.State) (ls : List (List ℕ))
      → answers a s (map f ls) ≡ answers a s ls
  unfolding answers
  answers-each says s [] = refl
  answers-each says s (l ∷ ls) = rw (says s l, next s l, answers-each says (a.next s l) ls) refl

module _ {a : Answering} (c : Cuts a) where
  pub after-cut : (s : a.State) (ls : List (List ℕ)) → state_after a s (map cut ls) ≡ state_after a s ls
  after-cut = after-each a cut c.next

  pub answers-cut : (s : a.State) (ls : List (List ℕ)) → answers a s (map cut ls) ≡ answers a s ls
  answers-cut = answers-each a cut c.next c.says

  -- lines of which the same is kept
  answers-alike : (s : a.State) (k l : List (List ℕ)) → map cut k ≡ map cut l → answers a s k ≡ answers a s l
  answers-alike s k l e = sym (answers-cut s k) ∙ ap (answers a s) e ∙ answers-cut s l

  after-alike : (s : a.State) (k l : List (List ℕ)) → map cut k ≡ map cut l → state_after a s k ≡ state_after a s l
  after-alike s k l e = sym (after-cut s k) ∙ ap (state_after a s) e ∙ after-cut s l

  -- some of the input after some
  pub fed-more : {s t u : a.State} {kept kept' kept'' x y p q : List ℕ} → Fed a s kept x t kept' p → Fed a t kept' y u kept'' q
      → Fed a s kept (x ++ y) u kept'' (p ++ q)
  fed-more {s = s} {kept = kept} {x = x} {y = y} f g =
      let e : cut (cut (unfinished kept x)) ≡ cut (unfinished kept x) = cut-cut (unfinished kept x) in
      let t = state_after a s (ended kept x) in
      let i = ended-cut (cut (unfinished kept x)) (unfinished kept x) y e in
      record {
        state = g.state ∙ rw (f.state, f.part, ended-append kept x y, after-append a s (ended kept x) (ended (unfinished kept x) y)) (after-alike t _ _ i);
        part = g.part ∙ rw (f.part, begun-append kept x y) (begun-cut (cut (unfinished kept x)) (unfinished kept x) y e);
        told = rw (f.told, g.told, f.state, f.part, ended-append kept x y, answers-append a s (ended kept x) (ended (unfinished kept x) y))
            (ap (λ (z : List ℕ). answers a s (ended kept x) ++ z) (answers-alike t _ _ i));
      }

  -- all of the input, and then the last line
  pub fed-whole : {s t : a.State} {kept x text : List ℕ} → Fed a s [] x t kept text → text ++ answers a t (last kept) ≡ input_text a s x
  unfolding input_text lines_of
  fed-whole {s = s} {x = x} f =
      rw (f.told, f.state, f.part, answers-append a s (ended [] x) (last (unfinished [] x)))
      (ap (λ (z : List ℕ). answers a s (ended [] x) ++ z) (answers-alike _ _ _ (last_alike (cut (unfinished [] x)) (unfinished [] x) (cut-cut (unfinished [] x)))))

-- where each line counts as its normal form, so does the input
pub input_normal : (a : Answering) → ((s : a.State) (l : List ℕ) → a.next s (normal l) ≡ a.next s l)
    → ((s : a.State) (l : List ℕ) → a.says s (normal l) ≡ a.says s l) → (s : a.State) (input : List ℕ) → input_text a s (normal input) ≡ input_text a s input
unfolding input_text
input_normal a next says s input = ap (answers a s) (lines_normal input) ∙ answers-each a normal next says s (lines_of input)
