-- What a call on a lent record answers, and every octet that it leaves.
use Rattle.std.specs.Prelude.{ℕ, ◌≡◌, List, length}
use Rattle.octets.specs.Test.{Outcome}
use Rattle.frame.specs.Frame.{Block}
use Rattle.frame.specs.Read.{cut_block}
use Rattle.protocol.specs.Table.{Step}
use Rattle.call_spec.specs.declared.Call.{Call}
use Rattle.call_spec.specs.Answers.{block_of, block_part, block_buffer_after}
use Rattle.call_spec.specs.Calls.{Arguments, given, rooms, performed, record_after, buffer_after, page_after}
use Rattle.lent_record.specs.declared.Answer.{Answer}
use Rattle.lent_record.specs.Record.{format}
use Rattle.lent_record.specs.Told.{answer_of}

-- A call with this outcome, of the record rec, the block b of a request or of a frame, and the buffers out and up: every octet that it
-- leaves, and where the block handed up stands.
pub record Called (c : Call) (o : Outcome Step) (rec : List ℕ) (b : Block) (out up rec' out' up' : List ℕ) (r : Answer) : Type 0 where
  pub answer : r ≡ answer_of rec o
  pub end : rec' ≡ record_after format rec o
  pub buffer : out' ≡ buffer_after out o
  pub block_buffer : up' ≡ block_buffer_after c up o
  pub block : block_part c b up' r.block ≡ block_of o

-- a call with these octets and these buffers, and all that it does
abbrev pub lent_call : Call → List ℕ → List ℕ → List ℕ → Arguments
lent_call c s out up = given c s (rooms (length out) (length up))

-- of a record and its page: what it comes to
abbrev pub lent_outcome : Call → List ℕ → List ℕ → List ℕ → List ℕ → List ℕ → Outcome Step
lent_outcome c rec page s out up = performed format rec page (lent_call c s out up)

abbrev pub CalledLent : Call → List ℕ → List ℕ → List ℕ → List ℕ → List ℕ → List ℕ → List ℕ → List ℕ → List ℕ → Answer → Type 0
CalledLent c rec page s out up rec' page' out' up' r =
    Called c (lent_outcome c rec page s out up) rec (cut_block s) out up rec' out' up' r × (page' ≡ page_after page (lent_outcome c rec page s out up))

-- the answer in numbers
abbrev pub answer_in : ℕ → ℕ → ℕ → ℕ → ℕ → ℕ → ℕ → Answer
answer_in number state notice local remote sent block =
    record { status = record { number = number; state = state; notice = notice; local = local; remote = remote }; sent = sent; block = block }
