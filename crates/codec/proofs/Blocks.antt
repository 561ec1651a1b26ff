-- The block that codec_read tells of: it is the end of the octets.
use Prim.Native.Nat.{ℕ, zero, suc, ◌+◌, ◌-◌, ◌≤◌}
use mathlib.Core.Path.{◌≡◌, refl, ap}
use mathlib.Core.Logic.{◌≢◌}
use mathlib.Core.List.{List, [], ◌∷◌}
use native.Mathlib.Omega.{arith}
use lib.ListN.{length, drop, length-drop, drop_of_length-le}
use lib.Seq.{drop-drop}
use Rattle.octets.specs.Test.{when, first, Outcome, refused, ok, mapped}
use Rattle.octets.proofs.Test.{if-eq, split, accepted}
use Rattle.frame.specs.Frame.{Frame, Request, CONNECT, LISTEN, END_LISTENING, CLOSE, SEND, TIMER}
use Rattle.frame.specs.Layout.{is_request, has_block, numbers_size, head_size}
use Rattle.frame.specs.Read.{kind_of, after_head, block_at, cut_block, request_at, read_questions, read_frame, read_request, Input, frame, request, read_input}
use Rattle.frame.proofs.Classes.{request_range}
use Rattle.frame.proofs.Shape.{no_block}
use Rattle.frame.proofs.Reading.{passed}
use Rattle.frame.proofs.Blocks.{read-block}
use Rattle.codec.specs.Calls.{count_told, read_known, block_read, BlockTold}

-- the block of a request is that of its kind
module _ (k : ℕ) (r : List ℕ) (h : CONNECT ≤ k) where
  abbrev Has : Request → Type 0
  Has q = block_read (request q) ≡ block_at k r

  none : k ≢ SEND → [] ≡ block_at k r
  unfolding block_at when
  none n = rw (no_block k (λ e. omega arith) n) refl

  asked-block : Has (request_at k r)
  unfolding request_at block_read
  asked-block =
      if-eq Has k CONNECT (λ i. none (λ e. omega arith))
      (λ _. if-eq Has k LISTEN (λ i. none (λ e. omega arith))
      (λ _. if-eq Has k END_LISTENING (λ i. none (λ e. omega arith))
      (λ _. if-eq Has k CLOSE (λ i. none (λ e. omega arith))
      (λ _. if-eq Has k SEND (λ _. refl)
      (λ n. if-eq Has k TIMER (λ _. none n)
      (λ _. none n))))))

-- what follows place k is the end of a list, of its own length
at_end : (k : ℕ) (s : List ℕ) → drop (length s - length (drop k s)) s ≡ drop k s
at_end zero s = let e : length s - length s ≡ 0 = omega arith in rw e refl
at_end (suc k) [] = refl
at_end (suc k) (x ∷ s) =
    let e : suc (length s) - length (drop k s) ≡ suc (length s - length (drop k s)) = omega (arith, length-drop k s) in
    rw e (at_end k s)

module _ (s : List ℕ) where
  -- the block that octets end with is their end
  cut-end : drop (length s - length (cut_block s)) s ≡ cut_block s
  unfolding cut_block block_at after_head
  cut-end =
      let n = numbers_size (kind_of s) in
      split (λ (b : List ℕ). drop (length s - length b) s ≡ b) (has_block (kind_of s)) (λ _. rw (drop-drop n head_size s) (at_end (head_size + n) s))
      (λ _. drop_of_length-le s {i = length s - 0} (omega arith))

  -- the block of what is read is the one that the octets end with
  abbrev Cut : Outcome Input → Type 0
  Cut o = mapped block_read o ≡ mapped (λ (i : Input). cut_block s) o

  frame-cut : (o : Outcome Frame) → read_frame s ≡ o → Cut (mapped frame o)
  unfolding mapped block_read
  frame-cut (refused n) h = refl
  frame-cut (ok f) h = ap ok (read-block s h)

  request-cut : (o : Outcome Request) → read_request s ≡ o → Cut (mapped request o)
  unfolding mapped read_request cut_block
  request-cut (refused n) h = refl
  request-cut (ok q) h =
      let k = kind_of s in
      let r = after_head s in
      let a = accepted (first (read_questions is_request k r)) (request_at k r) h in
      ap ok (rw a.1 at (asked-block k r (request_range k (passed is_request k r a.0).known).0))

  known-cut : (known : ℕ) → Cut (read_known known s)
  unfolding read_known read_input mapped
  known-cut known =
      if-eq Cut known 1 (λ _. frame-cut (read_frame s) refl)
      (λ _. if-eq Cut known 2 (λ _. request-cut (read_request s) refl)
      (λ _. if-eq Cut known 3 (λ _. split Cut (is_request (kind_of s)) (λ _. request-cut (read_request s) refl) (λ _. frame-cut (read_frame s) refl))
      (λ _. refl)))

  -- what a read tells of the block, and a refusal
  pub tells : (known c : ℕ) {i : Input} {n : ℕ} → read_known known s ≡ ok i → n ≡ length (cut_block s) → BlockTold (read_known known s) s c n
  unfolding count_told mapped
  tells known c e h =
      let b = known-cut known in
      record {
        count = rw (b, e) h;
        block = rw (b, e, h) (ap ok cut-end);
      }

  pub tells-nothing : {o : Outcome Input} {n : ℕ} (c : ℕ) → o ≡ refused n → BlockTold o s c c
  unfolding count_told mapped
  tells-nothing c e = rw e (record { count = refl; block = refl })
