-- A frame that was read fits its place on the wire: its numbers have 32 bits and pass question 7, its block has 1 to 64 octets.
use Prim.Native.Nat.{ℕ, ◌+◌, ◌≤◌, ◌<◌}
use mathlib.Core.Path.{◌≡◌, refl, sym, subst, ◌∙◌}
use mathlib.Core.Logic.{◌≢◌, ⊎_elim}
use mathlib.Core.Bool.{true, false, ◌||◌, not, true≢false}
use mathlib.Core.List.{List, [], ◌∷◌}
use native.Mathlib.Omega.{arith}
use borrow.Author.Tests.{leb-true, eqb-true, eq-eqb, ne_eqb}
use lib.Dec.{leb, eqb}
use lib.ListN.{length, drop, get_or, length-drop}
use Rattle.octets.specs.Sizes.{last_number, longest_block}
use Rattle.octets.specs.Test.{when, if_eq, first, ok}
use Rattle.octets.specs.Octets.{field, fields, size, Octets}
use Rattle.octets.proofs.Octets.{octets_drop, field_32}
use Rattle.octets.proofs.Test.{both, either, accepted, within}
use Rattle.frame.specs.Frame.{CRAO, REJ, DRACK, DATA, ACK, Frame}
use Rattle.frame.specs.Fits.{Fits, control_fits, data_fits, ack_fits}
use Rattle.frame.specs.Layout.{is_frame, has_block, layout, numbers_size, head_size, control_numbers, data_numbers}
use Rattle.frame.specs.Read.{kind_of, after_head, count_of, frame_at, count_ok, numbers_ok, readable, read_questions, read_frame}
use Rattle.frame.proofs.Shape.{frame-at, numbers-size, data_shape, ack_shape, by_frame}
use Rattle.frame.proofs.Reading.{Passed, passed, numbers_there}

-- what question 7 says of the numbers of a frame
module _ (k s r n : ℕ) (h : numbers_ok k s r n ≡ true) where
  sender-is : k ≢ REJ → k ≢ DRACK → 1 ≤ s
  unfolding numbers_ok
  sender-is a b =
      let p = both (leb 1 s || (eqb k REJ || eqb k DRACK)) _ h in
      ⊎_elim (λ t. leb-true 1 s t) (λ t. absurd (true≢false (sym t ∙ rw (ne_eqb k REJ a, ne_eqb k DRACK b) refl))) (either (leb 1 s) (eqb k REJ || eqb k DRACK) p.0)

  quoted-is : k ≢ CRAO → 1 ≤ r
  unfolding numbers_ok
  quoted-is a =
      let p = both (leb 1 s || (eqb k REJ || eqb k DRACK)) _ h in
      let q = both (leb 1 r || eqb k CRAO) _ p.1 in
      ⊎_elim (λ t. leb-true 1 r t) (λ t. absurd (true≢false (sym t ∙ ne_eqb k CRAO a))) (either (leb 1 r) (eqb k CRAO) q.0)

  number_is : k ≡ DATA → n < last_number
  unfolding numbers_ok
  number_is e =
      let p = both (leb 1 s || (eqb k REJ || eqb k DRACK)) _ h in
      let q = both (leb 1 r || eqb k CRAO) _ p.1 in
      ⊎_elim (λ t. omega (arith, leb-true n 4294967294 t)) (λ t. absurd (true≢false (sym t ∙ rw (eq-eqb k DATA e) refl))) (either (leb n 4294967294) (not (eqb k DATA)) q.1)

seven : (k : ℕ) (r : List ℕ) → Passed is_frame k r → readable (frame_at k r) ≡ true
unfolding when
seven k r p = rw p.known at p.numbers

frame_fits : (r : List ℕ) → Octets r → (k : ℕ) → is_frame k ≡ true → Passed is_frame k r → Fits (frame_at k r)
unfolding fields when size if_eq readable has_block count_ok count_of numbers_size layout
frame_fits r o =
    by_frame (λ j. Passed is_frame j r → Fits (frame_at j r))
    (λ j sh lo hi p.
    let e = frame-at j r (4 ∷ 4 ∷ []) false true sh in
    let q : numbers_ok j (field 4 0 r) (field 4 4 r) 0 ≡ true = rw e at (seven j r p) in
    let n = numbers_there j (length r) p.fixed in
    let z = numbers-size j r (4 ∷ 4 ∷ []) false true sh in
    rw e (control_fits j lo hi (sender-is j _ _ _ q) (field_32 0 r o (omega arith)) (quoted-is j _ _ _ q) (field_32 4 r o (omega arith))))
    (λ p.
    let e = frame-at DATA r (4 ∷ 4 ∷ 4 ∷ 1 ∷ []) true true data_shape in
    let q : numbers_ok DATA (field 4 0 r) (field 4 4 r) (field 4 control_numbers r) ≡ true = rw e at (seven DATA r p) in
    let c = within 1 longest_block (get_or r (control_numbers + 4) 0) p.count in
    let m = eqb-true (length r) (data_numbers + get_or r (control_numbers + 4) 0) p.exact in
    let d = length-drop data_numbers r in
    rw e
    (data_fits {b = drop data_numbers r} (sender-is DATA _ _ _ q (λ z. omega arith) (λ z. omega arith)) (field_32 0 r o (omega arith))
    (quoted-is DATA _ _ _ q (λ z. omega arith)) (field_32 4 r o (omega arith)) (number_is DATA _ _ _ q refl) (omega arith) (omega arith)))
    (λ p.
    let e = frame-at ACK r (4 ∷ 4 ∷ 4 ∷ []) false true ack_shape in
    let q : numbers_ok ACK (field 4 0 r) (field 4 4 r) (field 4 control_numbers r) ≡ true = rw e at (seven ACK r p) in
    let n = numbers_there ACK (length r) p.fixed in
    rw e
    (ack_fits (sender-is ACK _ _ _ q (λ z. omega arith) (λ z. omega arith)) (field_32 0 r o (omega arith))
    (quoted-is ACK _ _ _ q (λ z. omega arith)) (field_32 4 r o (omega arith)) (field_32 control_numbers r o (omega arith))))

module _ (s : List ℕ) {f : Frame} (h : read_frame s ≡ ok f) where
  was_read : Passed is_frame (kind_of s) (after_head s) × (frame_at (kind_of s) (after_head s) ≡ f)
  unfolding read_frame
  was_read =
      let a = accepted (first (read_questions is_frame (kind_of s) (after_head s))) (frame_at (kind_of s) (after_head s)) h in
      (passed is_frame (kind_of s) (after_head s) a.0, a.1)

  pub read_fits : Octets s → Fits f
  unfolding after_head
  read_fits o =
      let a = was_read in
      subst Fits a.1 (frame_fits (after_head s) (octets_drop head_size s o) (kind_of s) a.0.known a.0)

  -- the number of a DATA that was read is not the last
  pub data-limit : f.kind ≡ DATA → f.number < last_number
  unfolding readable
  data-limit e =
      let a = was_read in
      number_is f.kind f.sender f.quoted f.number (rw a.1 at (seven (kind_of s) (after_head s) a.0)) e
