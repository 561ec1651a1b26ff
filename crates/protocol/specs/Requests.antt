-- Requests and the timer call: questions 8, 9 and 10 of document 01, and what a request does where all answers are yes.
use Rattle.std.specs.Prelude.{ℕ, ◌+◌, ◌-◌, ◌||◌, List, [], ◌∷◌, ◌++◌, get_or, ltb, eqb}
use Rattle.octets.specs.Sizes.{last_number, last_incarnation, queue_size}
use Rattle.octets.specs.Test.{if_eq, Question, first, Outcome, outcome}
use Rattle.frame.specs.Frame.{Block, CRAO, CRPO, DR, control, data_frame, ack_frame}
use Rattle.frame.specs.Frame.{Request, connect, listen, end_listening, close, timer, collect, send}
use Rattle.protocol.specs.Endpoint.{closed, listening, active_opening, passive_opening, established, closing, Endpoint, waiting, none_held}
use Rattle.protocol.specs.Table.{none, close_finished, handed_up, Sent, nothing, frame, Step, quiet, says, turned, delivering}

-- 8: does the state allow the request?
abbrev pub state_is : ℕ → Endpoint → Question
state_is n e = (8, eqb e.state n)

abbrev pub state_is_either : ℕ → ℕ → Endpoint → Question
state_is_either m n e = (8, eqb e.state m || eqb e.state n)

-- 9: is a number left? Of incarnations as many as a page reserves (N6), of blocks 32 bits.
abbrev pub incarnation_left : Endpoint → Question
incarnation_left e = (9, ltb e.local last_incarnation)

abbrev pub block_number_left : Endpoint → Question
block_number_left e = (9, ltb e.accepted last_number)

-- 10: send: is w below 8?
abbrev pub place_left : Endpoint → Question
place_left e = (10, ltb (waiting e) queue_size)

-- the questions of each request, in document 01's order
unfoldable pub request_questions : Request → Endpoint → List Question
request_questions connect e = state_is closed e ∷ incarnation_left e ∷ []
request_questions listen e = state_is closed e ∷ incarnation_left e ∷ []
request_questions end_listening e = state_is listening e ∷ []
request_questions close e = state_is_either active_opening established e ∷ []
request_questions (send b) e = state_is established e ∷ block_number_left e ∷ place_left e ∷ []
request_questions timer e = []
request_questions collect e = state_is established e ∷ []

-- the number of the refusal, 0 where there is none
unfoldable pub refusal : Request → Endpoint → ℕ
refusal q e = first (request_questions q e)

-- the next incarnation, in state st, with no partner known
abbrev pub begun : ℕ → Endpoint → Endpoint
begun st e = record { state = st; local = e.local + 1; remote = 0; accepted = 0; delivered = 0; queue = []; held = none_held }

-- the block joins the waiting ones as number t, then t + 1
abbrev pub queueing : Block → Endpoint → Endpoint
queueing b e =
    record {
      state = e.state;
      local = e.local;
      remote = e.remote;
      accepted = e.accepted + 1;
      delivered = e.delivered;
      queue = e.queue ++ (b ∷ []);
      held = e.held;
    }

-- the DATA of the oldest waiting block, which has number t - w, if there is one
unfoldable pub oldest : Endpoint → List Block → Sent
oldest e [] = nothing
oldest e (b ∷ bs) = frame (data_frame e.local e.remote (e.accepted - waiting e) b)

-- what the timer call sends
unfoldable pub resent : Endpoint → Sent
resent e =
    if_eq e.state active_opening (frame (control CRAO e.local e.remote))
    (if_eq e.state passive_opening (frame (control CRPO e.local e.remote))
    (if_eq e.state established (oldest e e.queue)
    (if_eq e.state closing (frame (control DR e.local e.remote))
    nothing)))

-- what close does: DR(L,D), and closing; an end that calls and has heard of no partner has nobody to tell, and is closed at once
unfoldable pub hung_up : Endpoint → Step
hung_up e =
    if_eq e.remote 0 (quiet (turned closed 0 e) close_finished)
    (says (turned closing e.remote e) none (control DR e.local e.remote))

-- what collect does, where b is held as block e: it is handed up; where none is, nothing
unfoldable pub collected : Endpoint → Block → Step
collected e [] = quiet e none
collected e (x ∷ b) = says (delivering e) (handed_up (x ∷ b)) (ack_frame e.local e.remote (e.delivered + 1))

-- what a request does that is allowed
unfoldable pub accept : Request → Endpoint → Step
accept connect e = says (begun active_opening e) none (control CRAO (e.local + 1) 0)
accept listen e = quiet (begun listening e) none
accept end_listening e = quiet (turned closed 0 e) none
accept close e = hung_up e
accept (send b) e = says (queueing b e) none (data_frame e.local e.remote e.accepted b)
accept timer e = record { endpoint = e; notice = none; sent = resent e }
accept collect e = collected e (get_or e.held 0 [])

-- what a request answers: its refusal, or the step
unfoldable pub request : Request → Endpoint → Outcome Step
request q e = outcome (refusal q e) (accept q e)
