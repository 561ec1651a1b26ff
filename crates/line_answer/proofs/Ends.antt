-- From what a call on a lent record answers to the text of its outcome.
use Prim.Native.Nat.{ℕ}
use mathlib.Core.Path.{◌≡◌, refl, ap}
use mathlib.Core.List.{List, []}
use lib.ListN.{take, replicate}
use Rattle.octets.specs.Sizes.{longest_frame, longest_block}
use Rattle.octets.specs.Test.{Outcome, refused, mapped}
use Rattle.octets.specs.Octets.{left}
use Rattle.frame.specs.Frame.{Block}
use Rattle.protocol.specs.Table.{Step}
use Rattle.call_spec.specs.declared.Call.{Call}
use Rattle.call_spec.specs.Calls.{wire, record_after, page_after}
use Rattle.call_spec.specs.Answers.{sent_in, block_of}
use Rattle.lent_record.specs.declared.Answer.{Answer}
use Rattle.lent_record.specs.Told.{answer_of}
use Rattle.link.specs.Lent.{Called}
use Rattle.lent_record.proofs.Told.{sent_taken}
use Rattle.answer_text.specs.Text.{text_of, StartsWith}
use Rattle.line_answer.specs.Text.{text, LineAnswered}

-- the buffers for a frame out and for a block
abbrev pub room : List ℕ
room = replicate longest_frame 0

abbrev pub block_room : List ℕ
block_room = replicate longest_block 0

pub gives : {c : Call} (o : Outcome Step) (rec page : List ℕ) (x : Block) (out : List ℕ) {rec' page' frame up out' : List ℕ} {a : Answer} {r : ℕ} {b : Block}
    → Called c o rec x room block_room rec' frame up a → page' ≡ page_after page o → b ≡ block_of o → StartsWith (text_of a.status b (take a.sent frame)) out out' r
    → LineAnswered o rec page out rec' page' out' r
unfolding text answer_of
gives o rec page x out l g h w =
    let e = l.answer in
    record { begins = rw (ap (λ (x : Answer). x.status) e, h, sent_taken room o l.buffer (ap (λ (x : Answer). x.sent) e)) at w; end = l.end; paged = g }

-- the text of a refusal, which leaves the record and the page
pub tells_refusal : (rec out : List ℕ) (n : ℕ) {out' : List ℕ} {a : Answer} {r : ℕ} → a ≡ answer_of rec (refused n)
    → StartsWith (text_of a.status [] []) out out' r → StartsWith (text rec (refused n)) out out' r
unfolding text answer_of block_of sent_in wire
tells_refusal rec out n h w = rw (ap (λ (x : Answer). x.status) h) at w

pub refuses : {o : Outcome Step} {n : ℕ} → o ≡ refused n → (rec page out : List ℕ) {out' : List ℕ} {r : ℕ} → StartsWith (text rec (refused n)) out out' r
    → LineAnswered o rec page out rec page out' r
unfolding record_after page_after mapped left
refuses e rec page out w = rw e (record { begins = w; end = refl; paged = refl })
