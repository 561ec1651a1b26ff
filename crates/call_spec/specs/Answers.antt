-- What an outcome answers: its notice, the frame sent, the endpoint left, the block handed up.
use Rattle.std.specs.Prelude.{ℕ, List, [], take}
use Rattle.octets.specs.Test.{Outcome, refused, ok, mapped}
use Rattle.octets.specs.Octets.{left}
use Rattle.frame.specs.Frame.{Block}
use Rattle.protocol.specs.Endpoint.{Endpoint}
use Rattle.call_spec.specs.declared.Call.{Call}
use Rattle.call_spec.specs.declared.Call.TheVariants.{Request, Receive}
use Rattle.protocol.specs.Table.{Sent, nothing, Step, notice_number, Notice, none, connected, rejected, closed_by_partner, close_finished, handed_up}

-- a refusal has no notice, sends nothing and leaves the endpoint
unfoldable pub notice_of : Outcome Step → ℕ
notice_of (refused n) = 0
notice_of (ok x) = notice_number x.notice

unfoldable pub sent_in : Outcome Step → Sent
sent_in (refused n) = nothing
sent_in (ok x) = x.sent

unfoldable pub endpoint_after : Endpoint → Outcome Step → Endpoint
endpoint_after e (refused n) = e
endpoint_after e (ok x) = x.endpoint

-- the block handed up
unfoldable pub block_in : Notice → Block
block_in none = []
block_in connected = []
block_in rejected = []
block_in closed_by_partner = []
block_in close_finished = []
block_in (handed_up b) = b

unfoldable pub block_of : Outcome Step → Block
block_of (refused n) = []
block_of (ok x) = block_in x.notice

-- Where the block handed up stands, of n octets. Received, it is "a part of the caller's own received frame", the block b of that frame. Collected, it
-- is the start of the lent buffer up.
unfoldable pub block_part : Call → Block → List ℕ → ℕ → Block
block_part Request b up n = take n up
block_part Receive b up n = take n b

-- what a call leaves in the buffer for a block: a request writes the block handed up at its start
unfoldable pub block_buffer_after : Call → List ℕ → Outcome Step → List ℕ
block_buffer_after Request up o = left (mapped (λ (x : Step). block_in x.notice) o) up
block_buffer_after Receive up o = up
