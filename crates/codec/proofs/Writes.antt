-- Which question refuses a frame to be written, and what a success leaves.
use Prim.Native.Nat.{ℕ, suc, ◌≤◌}
use mathlib.Core.Path.{◌≡◌, refl, sym, ◌∙◌}
use mathlib.Core.Logic.{◌≢◌}
use mathlib.Core.Bool.{true, false}
use mathlib.Core.List.{List, [], ◌∷◌}
use Rattle.octets.specs.Test.{if_eq, first, outcome, number_of}
use Rattle.octets.specs.Octets.{left}
use Rattle.octets.specs.Sizes.{longest_frame}
use borrow.Author.Tests.{le-leb}
use lib.ListN.{length}
use Rattle.octets.proofs.Test.{eq_no, eq_yes, asks, declines, all_asked}
use Rattle.frame.specs.Layout.{is_frame}
use Rattle.frame.specs.Read.{count_ok}
use Rattle.frame.specs.Frame.{Block, DATA}
use Rattle.frame.specs.Answer.{frame_with, Written}
use Rattle.codec.specs.Calls.{Numbers, WritesOctets, count_told, write_questions, write_frame}

module _ (h : Numbers) (b : Block) (out : List ℕ) where
  -- a refusal leaves all, a success what writing the frame leaves
  pub refuses : (n : ℕ) → suc n ≡ first (write_questions h b out) → (c : ℕ) → WritesOctets (write_frame h b out) out out c c (suc n)
  unfolding write_frame outcome number_of left count_told
  refuses n e c = rw (sym e) (record { answer = refl; buffer = refl; count = refl })

  pub fills : 0 ≡ first (write_questions h b out) → {out' : List ℕ} (c : ℕ) {n : ℕ} → Written (frame_with h.kind h.sender h.quoted h.number b) out out' n → WritesOctets (write_frame h b out) out out' c n 0
  unfolding write_frame outcome number_of left count_told
  fills e c w = rw (sym e) (record { answer = refl; buffer = w.octets; count = w.count })

-- the questions of a frame's kind, where the buffer has room: a DATA is asked its count
module _ (h : Numbers) (b : Block) (out : List ℕ) (room : longest_frame ≤ length out) (known : is_frame h.kind ≡ true) where
  asked : {n : ℕ} → n ≡ first ((5, if_eq h.kind DATA (count_ok (length b)) true) ∷ []) → n ≡ first (write_questions h b out)
  asked e = asks 11 _ _ (le-leb longest_frame (length out) room) (asks 3 _ _ known e)

  pub bad_count : h.kind ≡ DATA → count_ok (length b) ≡ false → 5 ≡ first (write_questions h b out)
  bad_count e n = asked (declines 5 _ _ (eq_yes h.kind DATA _ _ e ∙ n))

  pub counted : h.kind ≡ DATA → count_ok (length b) ≡ true → 0 ≡ first (write_questions h b out)
  counted e y = asked (asks 5 _ _ (eq_yes h.kind DATA _ _ e ∙ y) all_asked)

  pub uncounted : h.kind ≢ DATA → 0 ≡ first (write_questions h b out)
  uncounted e = asked (asks 5 _ _ (eq_no h.kind DATA _ _ e) all_asked)

-- only DATA has a block
pub no_block : (h : Numbers) (b : Block) → h.kind ≢ DATA → frame_with h.kind h.sender h.quoted h.number b ≡ frame_with h.kind h.sender h.quoted h.number []
no_block h b e = let none : Block = [] in rw (eq_no h.kind DATA b none e, eq_no h.kind DATA none none e) refl
