-- The text of an answer at one end.
use Rattle.std.specs.Prelude.{ℕ, ◌≡◌, List, [], ◌∷◌, Result, Ok, Err}
use Rattle.octets.specs.Test.{first, Outcome, refused, ok}
use Rattle.octets.specs.Refusal.{refusal_number}
use Rattle.octets.specs.declared.refusal.Refusal.{Refusal}
use Rattle.octets.specs.Octets.{put, lay, Octets}
use Rattle.protocol.specs.Table.{Step}
use Rattle.call_spec.specs.Calls.{wire, record_after, page_after}
use Rattle.call_spec.specs.Answers.{sent_in, block_of}
use Rattle.endpoint.specs.Record.{decode}
use Rattle.lent_record.specs.Record.{format, record_questions}
use Rattle.lent_record.specs.Told.{status_of, stands}
use Rattle.answer_text.specs.Text.{as_line, text_of, StartsWith}
use Rattle.line_answer.specs.Line.{line_outcome}

-- the text of a call's outcome
unfoldable pub text : List ℕ → Outcome Step → List ℕ
text rec o = text_of (status_of rec o) (block_of o) (wire (sent_in o))

-- the answer to an empty line, which says how the end stands
abbrev pub standing : List ℕ → List ℕ
standing rec = text rec (ok (stands rec))

-- What the answer to a line that comes to o is, and every octet that it leaves: the text of o at the start of out, and the record and the page as o leaves
-- them.
pub record LineAnswered (o : Outcome Step) (rec page out rec' page' out' : List ℕ) (n : ℕ) : Type 0 where
  pub begins : StartsWith (text rec o) out out' n
  pub end : rec' ≡ record_after format rec o
  pub paged : page' ≡ page_after page o

-- what a line that comes to o answers and leaves, or the refusal that it comes to, where all that is lent is as it was
abbrev pub LineAsked : Outcome Step → List ℕ → List ℕ → List ℕ → List ℕ → List ℕ → List ℕ → Result ℕ Refusal → Type 0
LineAsked o rec page out rec' page' out' (Ok n) = LineAnswered o rec page out rec' page' out' n
LineAsked o rec page out rec' page' out' (Err r) = (o ≡ refused (refusal_number r)) × ((rec' ≡ rec) × ((page' ≡ page) × (out' ≡ out)))

-- What an empty line leaves of all that is lent, where 11, 12 and 15 are passed (document 02, N5): 23 characters, and nothing else moves.
pub record Stood (rec page out rec' page' out' : List ℕ) (n : ℕ) : Type 0 where
  pub count : n ≡ 23
  pub buffer : out' ≡ put out 0 (standing rec)
  pub end : rec' ≡ rec
  pub paged : page' ≡ page

-- The claims: so it is answered;
abbrev pub EmptyAnswered : Type 0
EmptyAnswered =
    (rec page out rec' page' out' : List ℕ) (n : ℕ) → Octets rec → first (record_questions rec page) ≡ 0
    → LineAnswered (line_outcome rec page []) rec page out rec' page' out' n → Stood rec page out rec' page' out' n

-- these are its characters: 80 (hexadecimal), for number 0, the record's state, notice 0, its L and D;
abbrev pub StandingSays : Type 0
StandingSays =
    (rec : List ℕ)
    → standing rec ≡ as_line (lay (1 ∷ 1 ∷ 1 ∷ 4 ∷ 4 ∷ []) (128 ∷ (decode rec).state ∷ 0 ∷ (decode rec).local ∷ (decode rec).remote ∷ []))

-- and the record and the page stay as they are, whether the end may be asked or not.
abbrev pub Undisturbed : Type 0
Undisturbed = (rec page : List ℕ) → Octets rec → record_after format rec (line_outcome rec page []) ≡ rec

abbrev pub PageUndisturbed : Type 0
PageUndisturbed = (rec page : List ℕ) → page_after page (line_outcome rec page []) ≡ page
