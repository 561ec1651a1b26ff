-- The answer to an empty line: how the end stands, and nothing moves.
use Prim.Native.Nat.{ℕ, zero, suc}
use mathlib.Core.Path.{◌≡◌, refl, sym, ap, ◌∙◌}
use mathlib.Core.List.{List, [], append-nil}
use lib.ListN.{length}
use Rattle.octets.specs.Test.{first, ok, refusing, mapped, number_of}
use Rattle.octets.specs.Octets.{left, Octets}
use Rattle.protocol.specs.Table.{notice_number}
use Rattle.call_spec.specs.Calls.{wire, record_after, page_after}
use Rattle.call_spec.specs.Answers.{notice_of, sent_in, block_in, block_of}
use Rattle.endpoint.specs.View.{pack, view}
use Rattle.lent_record.specs.Record.{format, record_questions}
use Rattle.lent_record.specs.Told.{told_of, status_of, stands}
use Rattle.lent_record.proofs.Holds.{record_holding}
use Rattle.lent_record.proofs.Standing.{stands_still}
use Rattle.answer_text.specs.Text.{as_line, counted, answer_octets, answer_line, frame_line, text_of, StartsWith}
use Rattle.answer_text.proofs.Text.{length_told}
use Rattle.line_answer.specs.Line.{ready_outcome, line_outcome}
use Rattle.line_answer.specs.Text.{text, standing, LineAnswered, EmptyAnswered, StandingSays, Undisturbed, PageUndisturbed}
use Rattle.line_answer.proofs.Lines.{asked_of, page_still, asks-standing}

module _ (rec : List ℕ) where
  -- one answer line, without a block
  pub standing-is : standing rec ≡ answer_line (status_of rec (ok (stands rec))) []
  unfolding text text_of frame_line block_of block_in sent_in wire
  standing-is = append-nil (answer_line (status_of rec (ok (stands rec))) [])

  pub standing-long : length (standing rec) ≡ 23
  standing-long = ap length standing-is ∙ length_told (status_of rec (ok (stands rec)))

pub standing-says : StandingSays
unfolding status_of told_of number_of notice_of notice_number pack view answer_octets counted
standing-says rec = standing-is rec ∙ ap as_line (append-nil _)

module _ (rec page : List ℕ) where
  still : Octets rec → first (record_questions rec page) ≡ 0 → record_after format rec (ok (stands rec)) ≡ rec
  still o h = let a = asked_of rec page h in stands_still (record_holding rec page a.long o a.is_sound a.page_long a.goes)

  -- the record and the page stay as they are, whether the end may be asked or not
  leaves : Octets rec → (n : ℕ) → n ≡ first (record_questions rec page) → record_after format rec (refusing n (ready_outcome rec page [])) ≡ rec
  unfolding ready_outcome refusing record_after mapped left
  leaves o zero h = still o (sym h)
  leaves o (suc n) h = refl

  leaves-page : (n : ℕ) → n ≡ first (record_questions rec page) → page_after page (refusing n (ready_outcome rec page [])) ≡ page
  unfolding ready_outcome refusing page_after
  leaves-page zero h = page_still rec page (asked_of rec page (sym h)).goes
  leaves-page (suc n) h = refl

  module _ (out : List ℕ) {out' : List ℕ} (o : Octets rec) (h : first (record_questions rec page) ≡ 0) where
    pub stands-there : {r : ℕ} → StartsWith (standing rec) out out' r → LineAnswered (ok (stands rec)) rec page out rec page out' r
    stands-there w = record { begins = w; end = sym (still o h); paged = sym (page_still rec page (asked_of rec page h).goes) }

pub undisturbed : Undisturbed
unfolding line_outcome
undisturbed rec page o = leaves rec page o (first (record_questions rec page)) refl

pub page_undisturbed : PageUndisturbed
unfolding line_outcome
page_undisturbed rec page = leaves-page rec page (first (record_questions rec page)) refl

-- N5 of the call: every octet of what is lent
pub stood : EmptyAnswered
stood rec page out rec' page' out' n o h w =
    let b = rw (asks-standing rec page [] h refl) at w.begins in
    record {
      count = b.count ∙ standing-long rec;
      buffer = b.buffer;
      end = w.end ∙ undisturbed rec page o;
      paged = w.paged ∙ page_undisturbed rec page;
    }
