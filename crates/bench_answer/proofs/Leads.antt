-- The text of an answer on the bench, part after part.
use Prim.Native.Nat.{ℕ, ◌+◌, ◌-◌, ◌≤◌}
use mathlib.Core.Path.{◌≡◌, refl, sym}
use mathlib.Core.List.{List, [], ◌∷◌, ◌++◌}
use native.Mathlib.Omega.{arith}
use lib.ListN.{length, take, drop, set, length-append}
use Rattle.octets.specs.Sizes.{longest_frame, longest_block}
use Rattle.octets.specs.Test.{when, if_lt}
use Rattle.octets.specs.Octets.{put}
use Rattle.octets.proofs.Octets.{put_sets, then_put}
use Rattle.hexadecimal.specs.Line.{digit, hex}
use Rattle.frame.specs.Frame.{Block}
use Rattle.call_spec.specs.declared.Status.{Status}
use Rattle.answer_text.specs.Text.{as_line, answer_octets, frame_line, text_of, answer_room, StartsWith}
use Rattle.octets.proofs.Buffers.{rest_put}
use Rattle.answer_text.proofs.Text.{length_line, told_short}
use Rattle.bench_spec.specs.declared.End.{End}
use Rattle.bench_spec.specs.declared.End.TheVariants.{A, B}
use Rattle.bench_spec.specs.Bench.{end_number}
use Rattle.bench_answer.specs.Text.{lead}

-- the text at one end has room in what its answer asks for
pub text_short : (t : Status) (b : Block) (sent : List ℕ) → length b ≤ longest_block → length sent ≤ longest_frame → length (text_of t b sent) ≤ answer_room
unfolding text_of frame_line
text_short t b [] h l =
    let p = answer_octets t b in
    omega (arith, length-append (as_line p) [], length_line p, told_short t b h)
text_short t b (x ∷ s) h l =
    let p = answer_octets t b in
    omega (arith, length-append (as_line p) (as_line (x ∷ s)), length_line p, length_line (x ∷ s), told_short t b h)

-- the characters 5, then 0 or 1
leads : (e : End) → lead (end_number e) ≡ 53 ∷ (48 + end_number e) ∷ []
unfolding lead hex digit if_lt when
leads A = refl
leads B = refl

pub tells : (e : End) (d s : List ℕ) {i : ℕ} {u : List ℕ} {n : ℕ} → answer_room + 2 ≤ length d → let y = set (set d 0 53) 1 i in
    StartsWith s (take (length y - 2) (drop 2 y)) u n → i ≡ 48 + end_number e
    → StartsWith (lead (end_number e) ++ s) d (take 2 y ++ (u ++ drop (length y - 2) (drop 2 y))) (n + 2)
tells e d s {i} {u} {n} l w h =
    let y = set (set d 0 53) 1 i in
    let p : List ℕ = 53 ∷ i ∷ [] in
    let k : y ≡ put d 0 p = put_sets d p 0 (omega arith) in
    rw (leads e, sym h)
    (record { count = omega (arith, length-append p s, w.count); buffer = then_put d p s 2 refl (omega arith) k (rest_put y s 2 w.buffer) })
