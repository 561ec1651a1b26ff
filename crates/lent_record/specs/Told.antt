-- What is told of a lent record, and what a restart leaves.
use Rattle.std.specs.Prelude.{ℕ, ◌≡◌, List, leb, length}
use Rattle.octets.specs.Test.{when, Outcome, refused, ok, number_of}
use Rattle.page.specs.Page.{new_page}
use Rattle.protocol.specs.Endpoint.{fresh}
use Rattle.protocol.specs.Table.{none, Step, quiet}
use Rattle.call_spec.specs.Claim.{Lent, lent}
use Rattle.call_spec.specs.Answers.{notice_of, block_of}
use Rattle.call_spec.specs.declared.Status.{Status}
use Rattle.call_spec.specs.Calls.{wire, restarted_in, record_after, page_after}
use Rattle.endpoint.specs.declared.Endpoint.{Endpoint}
use Rattle.endpoint.specs.View.{pack}
use Rattle.endpoint.specs.Record.{record_size, decode}
use Rattle.lent_record.specs.declared.Answer.{Answer}
use Rattle.lent_record.specs.Record.{format}

-- The record whose state, L and D are told: the new one; after a refusal the one lent, as it stands, or a fresh one where the
-- buffer is too short to hold any.
unfoldable pub told_of : List ℕ → Outcome Step → Endpoint
told_of rec (refused n) = when (leb record_size (length rec)) (decode rec) (pack fresh)
told_of rec (ok x) = pack x.endpoint

unfoldable pub status_of : List ℕ → Outcome Step → Status
status_of rec o =
    record { number = number_of o; state = (told_of rec o).state; notice = notice_of o; local = (told_of rec o).local; remote = (told_of rec o).remote }

-- How an end stands, which an empty line asks (document 02, N5): nothing moves, nothing is sent, there is no notice.
abbrev pub stands : List ℕ → Step
stands rec = quiet (format.holds rec) none

-- the length of the frame sent; a refusal sends none
unfoldable pub sent_of : Outcome Step → ℕ
sent_of (refused n) = 0
sent_of (ok x) = length (wire x.sent)

unfoldable pub answer_of : List ℕ → Outcome Step → Answer
answer_of rec o = record { status = status_of rec o; sent = sent_of o; block = length (block_of o) }

-- the record and the page that an outcome leaves
abbrev pub lent_after : Lent → Outcome Step → Lent
lent_after r o = lent (record_after format r.rec o) (page_after r.page o)

-- A restart of a lent record (N6), on this page: what it answers, and every octet that it leaves.
pub record Restarted (rec page rec' : List ℕ) (r : Answer) : Type 0 where
  pub answer : r ≡ answer_of rec (restarted_in format rec page)
  pub end : rec' ≡ record_after format rec (restarted_in format rec page)

-- a fresh record: what a restart on a new page leaves
abbrev pub fresh_record : List ℕ
fresh_record = format.octets fresh

-- and a fresh end: such a record on a new page
abbrev pub fresh_end : Lent
fresh_end = lent fresh_record new_page
