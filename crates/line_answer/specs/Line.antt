-- What a line comes to at one end.
use Rattle.std.specs.Prelude.{ℕ, List, [], ◌∷◌}
use Rattle.octets.specs.Sizes.{longest_frame, longest_block}
use Rattle.octets.specs.Test.{when, first, Outcome, ok, refusing}
use Rattle.hexadecimal.specs.Line.{unhex, line_questions}
use Rattle.frame.specs.Layout.{is_request}
use Rattle.frame.specs.Read.{kind_of}
use Rattle.protocol.specs.Table.{Step}
use Rattle.call_spec.specs.declared.Call.{Call}
use Rattle.call_spec.specs.declared.Call.TheVariants.{Request, Receive}
use Rattle.call_spec.specs.Calls.{Arguments, given, rooms, performed}
use Rattle.lent_record.specs.Record.{format, record_questions}
use Rattle.lent_record.specs.Told.{stands}

-- The call that a line's octets make: a request by its kind, and anything else is received.
unfoldable pub call_in : List ℕ → Call
call_in s = when (is_request (kind_of s)) Request Receive

-- with room for the longest frame and the longest block
abbrev pub line_call : List ℕ → Arguments
line_call s = given (call_in s) s (rooms longest_frame longest_block)

-- What a line asks of an end that may be asked. The line of no characters asks how the end stands (document 02, N5). Every other makes a call: 1 and 2 of the
-- line, then what the call asks.
unfoldable pub ready_outcome : List ℕ → List ℕ → List ℕ → Outcome Step
ready_outcome rec page [] = ok (stands rec)
ready_outcome rec page (c ∷ line) = refusing (first (line_questions (c ∷ line))) (performed format rec page (line_call (unhex (c ∷ line))))

-- 11, 12 and 15 of the record and its page (N6) come first.
unfoldable pub line_outcome : List ℕ → List ℕ → List ℕ → Outcome Step
line_outcome rec page line = refusing (first (record_questions rec page)) (ready_outcome rec page line)
