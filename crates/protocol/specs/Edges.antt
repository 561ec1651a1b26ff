-- The eleven cases that document 01 marks P, "at the edges", as one table: what each call answers, whole; then those of N2, N4 and N6.
use Rattle.std.specs.Prelude.{ℕ, ◌≡◌, List, [], ◌∷◌, map}
use Rattle.octets.specs.Test.{Outcome, refused, ok}
use Rattle.frame.specs.Frame.{Block, CRAO, CRACK, REJ, RESET, DR, DRACK, control, data_frame, ack_frame, connect, listen, close, collect, send}
use Rattle.protocol.specs.Endpoint.{closed, listening, active_opening, passive_opening, established, closing, Endpoint, none_held}
use Rattle.protocol.specs.Table.{none, rejected, closed_by_partner, close_finished, handed_up, Step, quiet, says}
use Rattle.protocol.specs.History.{Call, ask, deliver, perform}

-- one line of the table
pub record Edge : Type 0 where
  pub before : Endpoint
  pub call : Call
  pub answer : Outcome Step

abbrev edge : Endpoint → Call → Outcome Step → Edge
edge e c x = record { before = e; call = c; answer = x }

-- an endpoint with no blocks: state, L, D
abbrev pub at : ℕ → ℕ → ℕ → Endpoint
at st l d = record { state = st; local = l; remote = d; accepted = 0; delivered = 0; queue = []; held = none_held }

-- an open endpoint with L = 1 and D = 2, that has handed up e blocks and holds those of h
abbrev having : ℕ → List Block → Endpoint
having e h = record { state = established; local = 1; remote = 2; accepted = 0; delivered = e; queue = []; held = h }

-- block e + 1 is held
abbrev early : Block → List Block
early b = [] ∷ b ∷ [] ∷ [] ∷ [] ∷ [] ∷ [] ∷ [] ∷ []

-- an open endpoint that has accepted n blocks, none of them acknowledged, and handed up none
abbrev open_holding : ℕ → List Block → Endpoint
open_holding n q = record { state = established; local = 1; remote = 2; accepted = n; delivered = 0; queue = q; held = none_held }

abbrev block : Block
block = 7 ∷ []

abbrev seven : List Block
seven = block ∷ block ∷ block ∷ block ∷ block ∷ block ∷ block ∷ []

unfoldable pub edges : List Edge
edges =
    edge (at active_opening 5 3) (deliver (control REJ 3 5)) (ok (quiet (at closed 5 0) rejected))
    ∷ edge (at active_opening 5 3) (deliver (control REJ 2 5)) (ok (quiet (at active_opening 5 3) none))
    ∷ edge (at closing 5 3) (deliver (control CRAO 4 0)) (ok (quiet (at closed 5 0) close_finished))
    ∷ edge (at closing 5 3) (deliver (control CRAO 3 5)) (ok (quiet (at closing 5 3) none))
    ∷ edge (at passive_opening 2 6) (deliver (control RESET 7 2)) (ok (quiet (at listening 2 0) none))
    ∷ edge (at passive_opening 2 6) (deliver (control RESET 5 2)) (ok (quiet (at passive_opening 2 6) none))
    ∷ edge (open_holding 0 []) (deliver (data_frame 2 1 1 block)) (ok (says (having 0 (early block)) none (ack_frame 1 2 0)))
    ∷ edge (at closed 65535 0) (ask connect) (ok (says (at active_opening 65536 0) none (control CRAO 65536 0)))
    ∷ edge (at closed 65536 0) (ask connect) (refused 9)
    ∷ edge (open_holding 7 seven) (ask (send block)) (ok (says (open_holding 8 (block ∷ seven)) none (data_frame 1 2 7 block)))
    ∷ edge (open_holding 8 (block ∷ seven)) (ask (send block)) (refused 10)
    ∷ []

-- N2's own, in the same form.
abbrev other : Block
other = 8 ∷ []

-- blocks e and e + 1 are held, and block e + 1 alone where e has risen
abbrev two : List Block
two = block ∷ other ∷ [] ∷ [] ∷ [] ∷ [] ∷ [] ∷ [] ∷ []

abbrev one : List Block
one = other ∷ [] ∷ [] ∷ [] ∷ [] ∷ [] ∷ [] ∷ [] ∷ []

-- block e + 7 is held
abbrev last : Block → List Block
last b = [] ∷ [] ∷ [] ∷ [] ∷ [] ∷ [] ∷ [] ∷ b ∷ []

unfoldable pub overtakings : List Edge
overtakings =
    -- DATA e + 7, e + 8, e - 1, and e + 1 a second time, with other octets
    edge (having 1 none_held) (deliver (data_frame 2 1 8 block)) (ok (says (having 1 (last block)) none (ack_frame 1 2 1)))
    ∷ edge (having 1 none_held) (deliver (data_frame 2 1 9 block)) (ok (says (having 1 none_held) none (ack_frame 1 2 1)))
    ∷ edge (having 1 none_held) (deliver (data_frame 2 1 0 block)) (ok (says (having 1 none_held) none (ack_frame 1 2 1)))
    ∷ edge (having 0 (early block)) (deliver (data_frame 2 1 1 other)) (ok (says (having 0 (early block)) none (ack_frame 1 2 0)))
    -- DATA e where e is held: what arrives is handed up, and the held copy goes
    ∷ edge (having 0 two) (deliver (data_frame 2 1 0 other)) (ok (says (having 1 one) (handed_up other) (ack_frame 1 2 1)))
    -- collect where e is held, where it is not, and where the end is not open
    ∷ edge (having 0 two) (ask collect) (ok (says (having 1 one) (handed_up block) (ack_frame 1 2 1)))
    ∷ edge (having 0 (early block)) (ask collect) (ok (quiet (having 0 (early block)) none))
    ∷ edge (at closed 5 0) (ask collect) (refused 8)
    ∷ edge (at listening 5 0) (ask collect) (refused 8)
    ∷ edge (at active_opening 5 3) (ask collect) (refused 8)
    ∷ edge (at passive_opening 5 3) (ask collect) (refused 8)
    ∷ edge (at closing 5 3) (ask collect) (refused 8)
    -- leaving open
    ∷ edge (having 0 (early block)) (deliver (control DR 2 1)) (ok (says (at closed 1 0) closed_by_partner (control DRACK 1 2)))
    ∷ edge (having 0 (early block)) (ask close) (ok (says (at closing 1 2) none (control DR 1 2)))
    ∷ []

-- N4's: close in every state, and where it calls, with D known and not.
unfoldable pub hang_ups : List Edge
hang_ups =
    edge (at active_opening 5 0) (ask close) (ok (quiet (at closed 5 0) close_finished))
    ∷ edge (at active_opening 5 3) (ask close) (ok (says (at closing 5 3) none (control DR 5 3)))
    ∷ edge (at established 5 3) (ask close) (ok (says (at closing 5 3) none (control DR 5 3)))
    ∷ edge (at closed 5 0) (ask close) (refused 8)
    ∷ edge (at listening 5 0) (ask close) (refused 8)
    ∷ edge (at passive_opening 5 3) (ask close) (refused 8)
    ∷ edge (at closing 5 3) (ask close) (refused 8)
    ∷ []

-- N6's: what a closed end answers to what an open one sends; REJ to an open end; and 9, of incarnations and of blocks.
unfoldable pub rejections : List Edge
rejections =
    edge (at closed 5 0) (deliver (control CRACK 3 4)) (ok (says (at closed 5 0) none (control REJ 5 3)))
    ∷ edge (at closed 5 0) (deliver (data_frame 3 4 0 block)) (ok (says (at closed 5 0) none (control REJ 5 3)))
    ∷ edge (at closed 5 0) (deliver (ack_frame 3 4 1)) (ok (says (at closed 5 0) none (control REJ 5 3)))
    ∷ edge (at closed 5 0) (deliver (control REJ 3 4)) (ok (quiet (at closed 5 0) none))
    ∷ edge (having 1 (early block)) (deliver (control REJ 2 1)) (ok (quiet (at closed 1 0) closed_by_partner))
    ∷ edge (having 1 (early block)) (deliver (control REJ 16 1)) (ok (quiet (at closed 1 0) closed_by_partner))
    ∷ edge (having 1 (early block)) (deliver (control REJ 1 1)) (ok (quiet (having 1 (early block)) none))
    ∷ edge (having 1 (early block)) (deliver (control REJ 2 2)) (ok (quiet (having 1 (early block)) none))
    ∷ edge (at closed 65535 0) (ask listen) (ok (quiet (at listening 65536 0) none))
    ∷ edge (at closed 65536 0) (ask listen) (refused 9)
    ∷ edge (open_holding 4294967295 []) (ask (send block)) (refused 9)
    ∷ []

-- what the table says, and what the calls answer
unfoldable pub expected : List Edge → List (Outcome Step)
expected es = map (λ (x : Edge). x.answer) es

unfoldable pub edge_answers : List Edge → List (Outcome Step)
edge_answers es = map (λ (x : Edge). perform x.call x.before) es

-- The claim of such a table: each answer is the one that it says.
abbrev pub AsExpected : List Edge → Type 0
AsExpected es = edge_answers es ≡ expected es
