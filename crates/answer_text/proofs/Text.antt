-- The text of an answer, part after part.
use Prim.Native.Nat.{ℕ, ◌+◌, ◌-◌, ◌*◌, ◌≤◌, ◌<◌, ◌%◌}
use mathlib.Core.Path.{◌≡◌, refl, sym, ap, ◌∙◌}
use mathlib.Core.Logic.{◌≢◌}
use mathlib.Core.List.{List, [], ◌∷◌, ◌++◌, append-nil}
use native.Mathlib.Omega.{arith}
use lib.ListN.{length, take, drop, length-append}
use Rattle.octets.proofs.Buffers.{rest_put}
use Rattle.octets.specs.Sizes.{longest_block}
use Rattle.octets.specs.Octets.{put, octets_of, lay}
use Rattle.octets.proofs.Octets.{length-put, then_put}
use Rattle.hexadecimal.specs.Line.{hex}
use Rattle.hexadecimal.proofs.Digits.{length-hex}
use Rattle.frame.specs.Frame.{Block}
use Rattle.call_spec.specs.declared.Status.{Status}
use Rattle.answer_text.specs.Text.{as_line, counted, answer_octets, answer_line, frame_line, text_of, longest_answer}
use Rattle.answer_text.specs.Text.{StartsWith}

pub length_line : (s : List ℕ) → length (as_line s) ≡ 2 * length s + 1
unfolding as_line
length_line s = length-append (hex s) (10 ∷ []) ∙ ap (λ (n : ℕ). n + 1) (length-hex s)

-- the digits, then the line feed
pub line_puts : (s d : List ℕ) → 2 * length s + 1 ≤ length d → {a b : List ℕ} → a ≡ put d 0 (hex s) → b ≡ put a (2 * length s) (10 ∷ [])
    → StartsWith (as_line s) d b (2 * length s + 1)
unfolding as_line
line_puts s d h ea eb =
    record { count = sym (length_line s); buffer = then_put d (hex s) (10 ∷ []) (2 * length s) (length-hex s) (omega arith) ea eb }

-- the numbers of an answer line
head : Status → List ℕ
unfolding lay
head t = lay (1 ∷ 1 ∷ 1 ∷ 4 ∷ 4 ∷ []) ((128 + t.number) ∷ t.state ∷ t.notice ∷ t.local ∷ t.remote ∷ [])

byte : (v : ℕ) → v < 256 → v % 256 ≡ v
byte v h = omega arith

pub numbers-put : (t : Status) (d : List ℕ) → t.state < 256 → t.notice < 256 → 11 ≤ length d → {x : ℕ} → x ≡ (128 + t.number) % 256
    → {a b c e f : List ℕ} → a ≡ put d 0 (x ∷ []) → b ≡ put a 1 (t.state ∷ []) → c ≡ put b 2 (t.notice ∷ [])
    → e ≡ put c 3 (octets_of 4 t.local) → f ≡ put e 7 (octets_of 4 t.remote) → f ≡ put d 0 (answer_octets t [])
unfolding answer_octets counted lay octets_of
numbers-put t d hs hn n {x} ex {a} {b} {c} {e} {f} ea eb ec ee ef =
    let p1 : List ℕ = x ∷ [] in
    let p2 : List ℕ = p1 ++ (t.state ∷ []) in
    let p3 : List ℕ = p2 ++ (t.notice ∷ []) in
    let p4 : List ℕ = p3 ++ octets_of 4 t.local in
    let s2 : b ≡ put d 0 p2 = then_put d p1 (t.state ∷ []) 1 refl (omega arith) ea eb in
    let s3 : c ≡ put d 0 p3 = then_put d p2 (t.notice ∷ []) 2 refl (omega arith) s2 ec in
    let s4 : e ≡ put d 0 p4 = then_put d p3 (octets_of 4 t.local) 3 refl (omega arith) s3 ee in
    let s5 : f ≡ put d 0 (p4 ++ octets_of 4 t.remote) = then_put d p4 (octets_of 4 t.remote) 7 refl (omega arith) s4 ef in
    rw (sym ex, byte t.state hs, byte t.notice hn) s5

none : (s : List ℕ) → length s ≡ 0 → s ≡ []
none [] h = refl
none (x ∷ s) h = absurd (omega arith)

counts : (b : Block) → length b ≢ 0 → counted b ≡ length b ∷ b
unfolding counted
counts [] h = absurd (h refl)
counts (x ∷ b) h = refl

length-numbers : (t : Status) → length (answer_octets t []) ≡ 11
unfolding answer_octets counted lay octets_of
length-numbers t = refl

-- an answer line without a block, and with one
pub told_none : (t : Status) (b d : List ℕ) → length b ≡ 0 → {f : List ℕ} → f ≡ put d 0 (answer_octets t []) → StartsWith (answer_octets t b) d f 11
told_none t b d h e = rw (none b h) (record { count = sym (length-numbers t); buffer = e })

with_block : (t : Status) (b : Block) → length b ≢ 0 → answer_octets t b ≡ (answer_octets t [] ++ (length b ∷ [])) ++ b
unfolding answer_octets counted lay octets_of
with_block t b h = rw (counts b h) refl

pub told_some : (t : Status) (b d : List ℕ) → length b ≢ 0 → longest_answer ≤ length d → length b ≤ longest_block → {f g h : List ℕ} → f ≡ put d 0 (answer_octets t [])
    → g ≡ put f 11 (length b ∷ []) → h ≡ put g 12 b → StartsWith (answer_octets t b) d h (12 + length b)
told_some t b d z n m ef eg eh =
    let p = answer_octets t [] in
    let q = p ++ (length b ∷ []) in
    let l : length q ≡ 12 = length-append p (length b ∷ []) ∙ ap (λ (n : ℕ). n + 1) (length-numbers t) in
    let s = then_put d p (length b ∷ []) 11 (length-numbers t) (omega arith) ef eg in
    rw (with_block t b z)
    (record { count = sym (length-append q b ∙ ap (λ (n : ℕ). n + length b) l); buffer = then_put d q b 12 l (omega arith) s eh })

-- at most longest_answer octets
pub told_short : (t : Status) (b : Block) → length b ≤ longest_block → length (answer_octets t b) ≤ longest_answer
told_short t [] h = omega (arith, length-numbers t)
told_short t (x ∷ b) h =
    let p = answer_octets t [] in
    rw (with_block t (x ∷ b) (λ z. omega arith))
    (omega (arith, length-append (p ++ (length (x ∷ b) ∷ [])) (x ∷ b), length-append p (length (x ∷ b) ∷ []), length-numbers t))

pub told_room : (t : Status) (b d : List ℕ) {x : List ℕ} {n : ℕ} → length b ≤ longest_block → length d ≡ longest_answer → StartsWith (answer_octets t b) d x n
    → (n ≤ longest_answer) × (length x ≡ longest_answer)
told_room t b d h l w =
    let k = told_short t b h in
    (omega (arith, w.count), ap length w.buffer ∙ length-put d (answer_octets t b) 0 (omega arith) ∙ l)

-- and its line has room for them
pub line_short : (t : Status) (b : Block) → length b ≤ longest_block → length (answer_line t b) ≤ 2 * longest_answer + 1
line_short t b h = omega (arith, length_line (answer_octets t b), told_short t b h)

pub line_room : (t : Status) (b : Block) (d : List ℕ) {x : List ℕ} {m : ℕ} → length b ≤ longest_block → StartsWith (answer_line t b) d x m → m ≤ 2 * longest_answer + 1
line_room t b d h w = omega (arith, w.count, line_short t b h)

-- without a block it has 23 characters
pub length_told : (t : Status) → length (answer_line t []) ≡ 23
length_told t = length_line (answer_octets t []) ∙ ap (λ (n : ℕ). 2 * n + 1) (length-numbers t)

-- the answer line alone, and with the frame's line after it
pub text-none : (t : Status) (b : Block) (sent d : List ℕ) → length sent ≡ 0 → {x : List ℕ} {m : ℕ} → StartsWith (answer_line t b) d x m
    → StartsWith (text_of t b sent) d x m
unfolding text_of frame_line
text-none t b sent d h w = rw (none sent h, append-nil (answer_line t b)) w

with_frame : (t : Status) (b : Block) (sent : List ℕ) → length sent ≢ 0 → text_of t b sent ≡ answer_line t b ++ as_line sent
unfolding text_of frame_line
with_frame t b [] h = absurd (h refl)
with_frame t b (x ∷ sent) h = refl

pub text-some : (t : Status) (b : Block) (sent d : List ℕ) → length sent ≢ 0 → {x y : List ℕ} {m k : ℕ} → StartsWith (answer_line t b) d x m
    → m ≤ length d → StartsWith (as_line sent) (take (length x - m) (drop m x)) y k → StartsWith (text_of t b sent) d (take m x ++ (y ++ drop (length x - m) (drop m x))) (m + k)
text-some t b sent d h {x} {y} {m} {k} w l v =
    let p = answer_line t b in
    let q = as_line sent in
    rw (with_frame t b sent h)
    (record {
      count = omega (arith, length-append p q, w.count, v.count);
      buffer = then_put d p q m (sym w.count) l w.buffer (rest_put x q m v.buffer);
    })
