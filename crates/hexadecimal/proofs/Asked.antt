-- What reading a line into a buffer for the longest frame says of questions 1 and 2, and of the octets read.
use Prim.Native.Nat.{ℕ, zero, suc, ◌≤◌}
use mathlib.Core.Path.{◌≡◌, refl, sym, ap, ◌∙◌}
use mathlib.Core.List.{List, ◌∷◌}
use native.Mathlib.Omega.{arith}
use lib.Dec.{leb}
use lib.ListN.{length, take}
use Rattle.octets.specs.Sizes.{longest_frame}
use Rattle.octets.specs.Test.{when, in_range, first, Outcome, refused, ok, outcome, mapped}
use Rattle.octets.specs.Octets.{put, left}
use Rattle.octets.proofs.Buffers.{put_fits, taken}
use Rattle.hexadecimal.specs.Line.{unhex, length_ok, line_questions, read_into}
use Rattle.hexadecimal.specs.Claim.{EmptyRefused}

-- reading as such refuses a line of no characters by 1
pub none_refused : EmptyRefused
unfolding first when length_ok in_range
none_refused = refl

-- what a call answers and leaves at its first no, and where all is yes
module _ (line d : List ℕ) where
  abbrev asked : ℕ
  asked = first ((11, leb longest_frame (length d)) ∷ line_questions line)

  pub refuses : (n : ℕ) → suc n ≡ asked → (refused (suc n) ≡ mapped length (read_into line d)) × (d ≡ left (read_into line d) d)
  unfolding read_into outcome mapped left
  refuses n h = rw (sym h) (refl, refl)

  pub decodes : 0 ≡ asked → {n : ℕ} {x : List ℕ} → n ≡ length (unhex line) → x ≡ put d 0 (unhex line) → (ok n ≡ mapped length (read_into line d)) × (x ≡ left (read_into line d) d)
  unfolding read_into outcome mapped left
  decodes h e k = rw (sym h) (ap ok e, k)

module _ (line d : List ℕ) (l : length d ≡ longest_frame) where
  asks : read_into line d ≡ outcome (first (line_questions line)) (unhex line)
  unfolding read_into first when
  asks = rw l refl

  -- both are passed, and n octets s are those of the line
  pub record Passed (n : ℕ) (s : List ℕ) : Type 0 where
    pub all_yes : first (line_questions line) ≡ 0
    pub count : n ≡ length (unhex line)
    pub octets : s ≡ put d 0 (unhex line)

  by_number : (m : ℕ) → first (line_questions line) ≡ m → (n : ℕ) (s : List ℕ) → mapped length (outcome m (unhex line)) ≡ ok n
      → s ≡ left (outcome m (unhex line)) d → Passed n s
  unfolding outcome mapped left
  by_number zero z n s h e = record { all_yes = z; count = (cc); octets = e }
  by_number (suc m) z n s h e = absurd (let f : ◌≡◌ {A = ℕ} 0 1 = cc in omega arith)

  pub passed : (n : ℕ) (s : List ℕ) → mapped length (read_into line d) ≡ ok n → s ≡ left (read_into line d) d → Passed n s
  passed n s h e = by_number (first (line_questions line)) refl n s (sym (ap (mapped length) asks) ∙ h) (e ∙ ap (λ (o : Outcome (List ℕ)). left o d) asks)

  pub fits : {n : ℕ} {s : List ℕ} → Passed n s → length s ≡ longest_frame → n ≤ longest_frame
  fits p k = omega (arith, p.count, put_fits d (unhex line) p.octets (k ∙ sym l))

  pub reads : {n : ℕ} {s : List ℕ} → Passed n s → take n s ≡ unhex line
  reads p = taken d (unhex line) p.octets p.count

  declined-by : (m : ℕ) (n : ℕ) → mapped length (outcome m (unhex line)) ≡ refused n → (k : ℕ) × (m ≡ suc k) × (n ≡ suc k)
  unfolding outcome mapped
  declined-by zero n h = absurd (let f : ◌≡◌ {A = ℕ} 0 1 = cc in omega arith)
  declined-by (suc m) n h = (m, refl, (cc))

  -- one of them is not
  pub turned_away : (n : ℕ) → mapped length (read_into line d) ≡ refused n → (k : ℕ) × (first (line_questions line) ≡ suc k) × (n ≡ suc k)
  turned_away n h = declined-by (first (line_questions line)) n (sym (ap (mapped length) asks) ∙ h)
