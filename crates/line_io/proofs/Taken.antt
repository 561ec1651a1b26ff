-- The next line of the input at hand, or what there is of it.
use Prim.Native.Nat.{ℕ, suc, ◌+◌, ◌-◌, ◌≤◌, ◌<◌}
use mathlib.Core.Path.{◌≡◌, refl, sym, ap, subst, ◌∙◌}
use mathlib.Core.Logic.{◌≢◌}
use mathlib.Core.Bool.{true, false}
use mathlib.Core.List.{List, [], ◌∷◌, ◌++◌}
use native.Mathlib.Omega.{arith}
use lib.ListN.{length, take, drop, length-drop}
use lib.Seq.{length-take-le, take-take}
use Rattle.std.proofs.lemmas.Bool.{true≢false}
use Rattle.octets.specs.Test.{if_eq}
use Rattle.octets.proofs.Test.{eq_yes, eq_no}
use Rattle.line_split.specs.Lines.{line_length, Kept}
use Rattle.line_split.specs.Split.{ended, unfinished, longest_kept, cut}
use Rattle.line_split.proofs.Split.{ended-none, begun-none, ended-one, begun-one, kept_cut, cut-cut}
use Rattle.line_io.specs.declared.Place.{Place}
use Rattle.line_io.specs.Place.{between, ready_line, Taken}

-- a part of a part
part_of : (f n t m : ℕ) (s : List ℕ) → n ≤ t - f → m ≡ n → take m (drop f s) ≡ take n (between f t s)
part_of f n t m s h e = rw e (sym (take-take n (t - f) (drop f s) h))

-- the next line, or what there is of it
module _ (buf line : List ℕ) (p : Place) (n : ℕ) (on : p.at < p.end) (read : p.end ≤ length buf) (l : length line ≡ longest_kept) (k : p.kept ≤ longest_kept)
    (e : n ≡ line_length (between p.at p.end buf)) where
  all : length (between p.at p.end buf) ≡ p.end - p.at
  all = length-take-le (p.end - p.at) (drop p.at buf) (rw length-drop (omega arith))

  pub takes-piece : p.at + n ≡ p.end → {line' : List ℕ} {m f t : ℕ} → Kept line p.kept (between p.at p.end buf) line' m → m ≤ length line → f ≤ t → t ≤ p.end
      → Taken buf line p line' (record { at = p.end; end = p.end; kept = m; filled = p.filled; has_line = false; from = f; to = t; steps = p.steps })
  takes-piece z w b g s =
      let h : line_length (between p.at p.end buf) ≡ length (between p.at p.end buf) = omega (arith, e, z, all) in
      record {
        on = on;
        used = omega arith;
        end = refl;
        filled = refl;
        steps = refl;
        held = omega arith;
        begins = g;
        stops = s;
        none = λ _. (ended-none _ _ h, kept_cut line _ p.kept l k w ∙ ap cut (sym (begun-none _ _ h)));
        one = λ y. absurd (y refl);
      }

  module _ (z : p.at + n ≢ p.end) (bound : n ≤ length (between p.at p.end buf)) where
    less : n < p.end - p.at
    less = omega (arith, all, bound, z)

    used-is : between p.at (p.at + n + 1) buf ≡ take (suc (line_length (between p.at p.end buf))) (between p.at p.end buf)
    used-is = rw (← e) (part_of p.at (suc n) p.end (p.at + n + 1 - p.at) buf (omega (arith, less)) (omega arith))

    piece_is : between p.at (p.at + n) buf ≡ take (line_length (between p.at p.end buf)) (between p.at p.end buf)
    piece_is = rw (← e) (part_of p.at n p.end (p.at + n - p.at) buf (omega (arith, less)) (omega arith))

    short : line_length (between p.at p.end buf) < length (between p.at p.end buf)
    short = omega (arith, e, less, all)

    ends-one : ended (take p.kept line) (between p.at (p.at + n + 1) buf) ≡ (take p.kept line ++ between p.at (p.at + n) buf) ∷ []
    ends-one = rw (used-is, piece_is) (ended-one (take p.kept line) (between p.at p.end buf) short)

    begins-none : unfinished (take p.kept line) (between p.at (p.at + n + 1) buf) ≡ []
    begins-none = rw used-is (begun-one (take p.kept line) (between p.at p.end buf) short)

    -- after a line, at is past its line feed
    takes-line : {line' : List ℕ} {m f t x : ℕ} → x ≡ p.at + n + 1 → m ≤ longest_kept → f ≤ t → t ≤ p.end
        → cut (take p.kept line ++ between p.at (p.at + n) buf) ≡ cut (if_eq m 0 (between f t buf) (take m line'))
        → Taken buf line p line' (record { at = x; end = p.end; kept = m; filled = p.filled; has_line = true; from = f; to = t; steps = p.steps })
    unfolding ready_line
    takes-line {line'} {m} {f} {t} ex b g s r =
        subst (λ (x : ℕ). Taken buf line p line' (record { at = x; end = p.end; kept = m; filled = p.filled; has_line = true; from = f; to = t; steps = p.steps })) (sym ex)
        (record {
          on = omega arith;
          used = omega (arith, less);
          end = refl;
          filled = refl;
          steps = refl;
          held = b;
          begins = g;
          stops = s;
          none = λ y. absurd (true≢false y);
          one = λ _. (rw ends-one (ap (λ (x : List ℕ). x ∷ []) r), begins-none);
        })

    pub takes-fresh : p.kept ≡ 0 → {f t x : ℕ} → x ≡ p.at + n + 1 → f ≡ p.at → t ≡ p.at + n
        → Taken buf line p line (record { at = x; end = p.end; kept = p.kept; filled = p.filled; has_line = true; from = f; to = t; steps = p.steps })
    takes-fresh y {f} {t} ex ef et =
        takes-line ex k (omega arith) (omega (arith, less)) (ap cut (rw (eq_yes p.kept 0 (between f t buf) (take p.kept line) y, y, ef, et) refl))

    pub takes-kept : p.kept ≢ 0 → {line' : List ℕ} {m f t x : ℕ} → Kept line p.kept (between p.at (p.at + n) buf) line' m → m ≤ length line → x ≡ p.at + n + 1
        → f ≤ t → t ≤ p.end
        → Taken buf line p line' (record { at = x; end = p.end; kept = m; filled = p.filled; has_line = true; from = f; to = t; steps = p.steps })
    takes-kept y {line'} {m} {f} {t} w b ex g s =
        takes-line ex (omega arith) g s
        (rw (eq_no m 0 (between f t buf) (take m line') (λ z. y (omega (arith, z, w.count)))) (sym (ap cut (kept_cut line _ p.kept l k w) ∙ cut-cut _)))
