-- Lines that come in pieces.
use Prim.Native.Nat.{ℕ, zero, suc, ◌+◌, ◌-◌, ◌≤◌, ◌<◌}
use mathlib.Core.Path.{◌≡◌, refl, sym, ap, ◌∙◌}
use mathlib.Core.Logic.{◌≢◌}
use mathlib.Core.List.{List, [], ◌∷◌, ◌++◌, append_assoc, append-nil, map}
use native.Mathlib.Omega.{arith}
use lib.ListN.{length, take, drop, length-append}
use lib.Seq.{length-take-le, take-append-add, take_at, take-take}
use Rattle.octets.specs.Octets.{put}
use Rattle.octets.specs.Test.{when, if_eq}
use Rattle.octets.proofs.Test.{by_eq, eq_yes, eq_no}
use Rattle.line_split.specs.Lines.{line_feed, line_length, Kept}
use Rattle.line_split.specs.Split.{ended, unfinished, last, lines_of, longest_kept, cut}

-- one character more: a line feed, and any other
module _ (part : List ℕ) (c : ℕ) (s : List ℕ) where
  pub ended-feed : c ≡ line_feed → ended part (c ∷ s) ≡ part ∷ ended [] s
  unfolding ended
  ended-feed e = eq_yes c line_feed _ _ e

  pub ended-other : c ≢ line_feed → ended part (c ∷ s) ≡ ended (part ++ (c ∷ [])) s
  unfolding ended
  ended-other e = eq_no c line_feed _ _ e

  pub begun-feed : c ≡ line_feed → unfinished part (c ∷ s) ≡ unfinished [] s
  unfolding unfinished
  begun-feed e = eq_yes c line_feed _ _ e

  pub begun-other : c ≢ line_feed → unfinished part (c ∷ s) ≡ unfinished (part ++ (c ∷ [])) s
  unfolding unfinished
  begun-other e = eq_no c line_feed _ _ e

  length-feed : c ≡ line_feed → line_length (c ∷ s) ≡ 0
  unfolding line_length
  length-feed e = eq_yes c line_feed _ _ e

  length-other : c ≢ line_feed → line_length (c ∷ s) ≡ suc (line_length s)
  unfolding line_length
  length-other e = eq_no c line_feed _ _ e

-- two pieces of a text
pub ended-append : (part s t : List ℕ) → ended part (s ++ t) ≡ ended part s ++ ended (unfinished part s) t
unfolding ended unfinished
ended-append part [] t = refl
ended-append part (c ∷ s) t =
    by_eq c line_feed
    (λ e. rw (ended-feed part c (s ++ t) e, ended-feed part c s e, begun-feed part c s e) (ap (λ (x : List (List ℕ)). part ∷ x) (ended-append [] s t)))
    (λ e. rw (ended-other part c (s ++ t) e, ended-other part c s e, begun-other part c s e) (ended-append (part ++ (c ∷ [])) s t))

pub begun-append : (part s t : List ℕ) → unfinished part (s ++ t) ≡ unfinished (unfinished part s) t
unfolding unfinished
begun-append part [] t = refl
begun-append part (c ∷ s) t =
    by_eq c line_feed
    (λ e. rw (begun-feed part c (s ++ t) e, begun-feed part c s e) (begun-append [] s t))
    (λ e. rw (begun-other part c (s ++ t) e, begun-other part c s e) (begun-append (part ++ (c ∷ [])) s t))

snoc : (part : List ℕ) (c : ℕ) (s : List ℕ) → (part ++ (c ∷ [])) ++ s ≡ part ++ (c ∷ s)
snoc part c s = append_assoc part (c ∷ []) s

-- a piece without a line feed
pub ended-none : (part s : List ℕ) → line_length s ≡ length s → ended part s ≡ []
unfolding ended
ended-none part [] h = refl
ended-none part (c ∷ s) h =
    by_eq c line_feed
    (λ e. absurd (omega (arith, length-feed part c s e)))
    (λ e. ended-other part c s e ∙ ended-none (part ++ (c ∷ [])) s (omega (arith, length-other part c s e)))

pub begun-none : (part s : List ℕ) → line_length s ≡ length s → unfinished part s ≡ part ++ s
unfolding unfinished
begun-none part [] h = sym (append-nil part)
begun-none part (c ∷ s) h =
    by_eq c line_feed
    (λ e. absurd (omega (arith, length-feed part c s e)))
    (λ e. begun-other part c s e ∙ begun-none (part ++ (c ∷ [])) s (omega (arith, length-other part c s e)) ∙ snoc part c s)

-- a piece up to its first line feed
pub ended-one : (part s : List ℕ) → line_length s < length s → ended part (take (suc (line_length s)) s) ≡ (part ++ take (line_length s) s) ∷ []
unfolding ended
ended-one part [] h = absurd (omega arith)
ended-one part (c ∷ s) h =
    by_eq c line_feed
    (λ e. rw (length-feed part c s e) (ended-feed part c [] e ∙ ap (λ (x : List ℕ). x ∷ []) (sym (append-nil part))))
    (λ e. rw (length-other part c s e)
    (ended-other part c (take (suc (line_length s)) s) e ∙ ended-one (part ++ (c ∷ [])) s (omega (arith, length-other part c s e))
    ∙ ap (λ (x : List ℕ). x ∷ []) (snoc part c (take (line_length s) s))))

pub begun-one : (part s : List ℕ) → line_length s < length s → unfinished part (take (suc (line_length s)) s) ≡ []
unfolding unfinished
begun-one part [] h = absurd (omega arith)
begun-one part (c ∷ s) h =
    by_eq c line_feed
    (λ e. rw (length-feed part c s e) (begun-feed part c [] e))
    (λ e. rw (length-other part c s e) (begun-other part c (take (suc (line_length s)) s) e ∙ begun-one (part ++ (c ∷ [])) s (omega (arith, length-other part c s e))))

-- what is cut of a line says what is cut of more of it
take_more : (n : ℕ) (a t : List ℕ) → take n (a ++ t) ≡ take n (take n a ++ t)
take_more zero a t = refl
take_more (suc n) [] t = refl
take_more (suc n) (x ∷ a) t = ap (λ (r : List ℕ). x ∷ r) (take_more n a t)

pub cut-more : (a b t : List ℕ) → cut a ≡ cut b → cut (a ++ t) ≡ cut (b ++ t)
unfolding cut
cut-more a b t e = take_more longest_kept a t ∙ ap (λ (r : List ℕ). take longest_kept (r ++ t)) e ∙ sym (take_more longest_kept b t)

pub cut-cut : (a : List ℕ) → cut (cut a) ≡ cut a
unfolding cut
cut-cut a = take-take longest_kept longest_kept a (omega arith)

pub begun-cut : (a b s : List ℕ) → cut a ≡ cut b → cut (unfinished a s) ≡ cut (unfinished b s)
unfolding unfinished
begun-cut a b [] e = e
begun-cut a b (c ∷ s) e =
    by_eq c line_feed
    (λ f. rw (begun-feed a c s f, begun-feed b c s f) refl)
    (λ f. rw (begun-other a c s f, begun-other b c s f) (begun-cut (a ++ (c ∷ [])) (b ++ (c ∷ [])) s (cut-more a b (c ∷ []) e)))

pub ended-cut : (a b s : List ℕ) → cut a ≡ cut b → map cut (ended a s) ≡ map cut (ended b s)
unfolding ended
ended-cut a b [] e = refl
ended-cut a b (c ∷ s) e =
    by_eq c line_feed
    (λ f. rw (ended-feed a c s f, ended-feed b c s f) (ap (λ (x : List ℕ). x ∷ map cut (ended [] s)) e))
    (λ f. rw (ended-other a c s f, ended-other b c s f) (ended-cut (a ++ (c ∷ [])) (b ++ (c ∷ [])) s (cut-more a b (c ∷ []) e)))

-- what is held of a line that comes in pieces is what is cut of it
pub kept_cut : (line piece : List ℕ) (n : ℕ) {line' : List ℕ} {m : ℕ} → length line ≡ longest_kept → n ≤ longest_kept → Kept line n piece line' m
    → take m line' ≡ cut (take n line ++ piece)
unfolding put cut
kept_cut line piece n l h k =
    let t = take (length line - n) piece in
    let p = take n line ++ t in
    let a : length (take n line) ≡ n = length-take-le n line (omega arith) in
    let q : length p ≡ n + length t = length-append (take n line) t ∙ ap (λ (x : ℕ). x + length t) a in
    let d : longest_kept ≡ length (take n line) + (length line - n) = omega arith in
    rw (k.buffer, k.count, ← append_assoc (take n line) t (drop (n + length t) line), take_at p (drop (n + length t) line) (n + length t) q)
    (sym (ap (λ (x : ℕ). take x (take n line ++ piece)) d ∙ take-append-add (take n line) piece (length line - n)))

-- no text, no line; a line feed more or less at the end says nothing; an empty line counts (97 is a letter)
none_in_none : lines_of [] ≡ []
unfolding lines_of ended unfinished last
none_in_none = refl

without_feed : lines_of (97 ∷ 10 ∷ 10 ∷ 97 ∷ 97 ∷ []) ≡ (97 ∷ []) ∷ [] ∷ (97 ∷ 97 ∷ []) ∷ []
unfolding lines_of ended unfinished last if_eq when
without_feed = refl

with_feed : lines_of (97 ∷ 10 ∷ 10 ∷ 97 ∷ 97 ∷ 10 ∷ []) ≡ (97 ∷ []) ∷ [] ∷ (97 ∷ 97 ∷ []) ∷ []
unfolding lines_of ended unfinished last if_eq when
with_feed = refl
