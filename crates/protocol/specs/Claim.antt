-- Demand 3 of document 01, and what is claimed beside it, about every list of calls.
use Rattle.std.specs.Prelude.{ℕ, ◌≤◌, ◌<◌, ◌≡◌, ◌⊎◌, ◌≢◌}
use mathlib.Core.List.{List, [], ◌∷◌, ◌++◌, Memᴰ}
use Rattle.octets.specs.Test.{if_eq, ok}
use Rattle.frame.specs.Frame.{Block, CRACK, REJ, DATA, ACK, Frame, control, connect, listen, end_listening, close, timer, collect, send}
use Rattle.protocol.specs.Endpoint.{closed, active_opening, established, closing, Endpoint}
use Rattle.protocol.specs.Table.{Notice, none, connected, rejected, closed_by_partner, close_finished, handed_up}
use Rattle.protocol.specs.Table.{frame, quiet, says, turned, step}
use Rattle.protocol.specs.Requests.{request}
use Rattle.protocol.specs.History.{Call, ask, deliver, Act, call, restart, cut, Event, History, now}
use Rattle.protocol.specs.World.{Ends, Entry, Two, made, run, AllDue, BothNew, ends}

-- An incarnation is one L of one end. It is begun by connect where the connect request raised L to it.
abbrev pub BegunByConnect : History → ℕ → Type 0
BegunByConnect h l = (x : Event) × Memᴰ x h × (x.act ≡ call (ask connect)) × (x.answer.endpoint.local ≡ l)

-- An end opens in a call that finds it in another state and leaves it open.
abbrev pub Opens : Endpoint → Endpoint → Type 0
Opens before after = (before.state ≢ established) × (after.state ≡ established)

-- What is promised of the partner as this end opens: of the other end, where that is e.
pub record Promised (this other : History) (e : Endpoint) : Type 0 where
  -- the other end's L is this one's D: the incarnation named
  pub named : e.local ≡ (now this).remote
  -- its D is this one's L: it names back
  pub named_back : e.remote ≡ (now this).local
  -- its state is 2 to 5
  pub at_least : active_opening ≤ e.state
  pub at_most : e.state ≤ closing
  -- at least one of the two incarnations was begun by connect
  pub called : BegunByConnect this (now this).local ⊎ BegunByConnect other e.local

-- a restart, or a cut, which counts as one
abbrev pub Restarts : Act → Type 0
Restarts (call c) = ⊥
Restarts restart = Unit {0}
Restarts (cut c) = Unit {0}

-- the end restarted, and P held of what the restart found
abbrev pub RestartedWhile : History → (Endpoint → Type 0) → Type 0
RestartedWhile h P = (x : Event) × Memᴰ x h × Restarts x.act × P x.before

-- What holds as this end opens: its partner is as promised, "or has restarted while in the incarnation named" (document 02, N6); then it was as
-- promised when it restarted.
abbrev pub Met : History → History → Type 0
Met this other = Promised this other (now other) ⊎ RestartedWhile other (Promised this other)

-- (a) of one call, which turns the ends w into w'
pub record Meets (A B : Ends) (w w' : Two A B) : Type 0 where
  pub at_a : Opens (now w.a.history) (now w'.a.history) → Met w'.a.history w'.b.history
  pub at_b : Opens (now w.b.history) (now w'.b.history) → Met w'.b.history w'.a.history

-- (a) of each call of the list
abbrev pub EachMeets : (A B : Ends) → Two A B → List (Entry A.Call B.Call) → Type 0
EachMeets A B w [] = Unit {0}
EachMeets A B w (c ∷ cs) = Meets A B w (made A B c w) × EachMeets A B (made A B c w) cs

-- the block of a call answered with notice 5
abbrev pub block_up : Notice → List Block
block_up none = []
block_up connected = []
block_up rejected = []
block_up closed_by_partner = []
block_up close_finished = []
block_up (handed_up b) = b ∷ []

-- handed up in the incarnation l: the blocks of the calls answered with notice 5 and that L, in the order of the list
unfoldable pub handed_up_in : ℕ → History → List Block
handed_up_in l [] = []
handed_up_in l (x ∷ earlier) = handed_up_in l earlier ++ if_eq x.answer.endpoint.local l (block_up x.answer.notice) []

-- the block of an accepted send request
abbrev pub block_sent : Call → List Block
block_sent (ask connect) = []
block_sent (ask listen) = []
block_sent (ask end_listening) = []
block_sent (ask close) = []
block_sent (ask timer) = []
block_sent (ask collect) = []
block_sent (ask (send b)) = b ∷ []
block_sent (deliver f) = []

-- a restart accepts none, nor does a call that is cut
abbrev pub block_accepted : Act → List Block
block_accepted (call c) = block_sent c
block_accepted restart = []
block_accepted (cut c) = []

-- accepted to send: the blocks of the accepted send requests answered with L = l and D = d, in the order of the list
unfoldable pub accepted_for : ℕ → ℕ → History → List Block
accepted_for l d [] = []
accepted_for l d (x ∷ earlier) =
    accepted_for l d earlier
    ++ if_eq x.answer.endpoint.local l (if_eq x.answer.endpoint.remote d (block_accepted x.act) []) []

-- the end opened in its incarnation l, and D named d as it did
abbrev pub OpenedWith : History → ℕ → ℕ → Type 0
OpenedWith h l d =
    (x : Event)
    × Memᴰ x h
    × Opens x.before x.answer.endpoint
    × (x.answer.endpoint.local ≡ l)
    × (x.answer.endpoint.remote ≡ d)

-- xs are the first of ys, in their order
abbrev pub Prefix : List Block → List Block → Type 0
Prefix xs ys = (zs : List Block) × (xs ++ zs ≡ ys)

-- (b) of one end: its partner in an incarnation l that opened is the other end in the incarnation d that D named
pub record InOrder (this other : History) : Type 0 where
  pub opened : (l d : ℕ) → OpenedWith this l d → Prefix (handed_up_in l this) (accepted_for d l other)
  pub never : (l : ℕ) → ((d : ℕ) → OpenedWith this l d → ⊥) → handed_up_in l this ≡ []

-- Demand 3, of a list of calls.
pub record Demand (A B : Ends) (start : Two A B) (calls : List (Entry A.Call B.Call)) : Type 0 where
  pub meets : EachMeets A B start calls
  pub to_a : InOrder (run A B start calls).a.history (run A B start calls).b.history
  pub to_b : InOrder (run A B start calls).b.history (run A B start calls).a.history

-- It is a single claim about every list at two fresh ends: no end opens without its partner.
abbrev pub NoEndAlone : Ends → Ends → Type 0
NoEndAlone A B = (start : Two A B) → BothNew A B start → (calls : List (Entry A.Call B.Call)) → AllDue A B start calls → Demand A B start calls

-- the act begins an incarnation
abbrev pub Begins : Act → Type 0
Begins (call (ask connect)) = Unit {0}
Begins (call (ask listen)) = Unit {0}
Begins (call (ask end_listening)) = ⊥
Begins (call (ask close)) = ⊥
Begins (call (ask timer)) = ⊥
Begins (call (ask collect)) = ⊥
Begins (call (ask (send b))) = ⊥
Begins (call (deliver f)) = ⊥
Begins restart = ⊥
Begins (cut c) = ⊥

-- N6: no number is used twice. The number that an incarnation begins with is above every L that the end had before.
unfoldable pub NeverTwice : History → Type 0
NeverTwice [] = Unit {0}
NeverTwice (x ∷ earlier) =
    (Begins x.act → (y : Event) → Memᴰ y earlier → y.answer.endpoint.local < x.answer.endpoint.local) × NeverTwice earlier

-- of both ends, after every list
abbrev pub NoNumberTwice : Ends → Ends → Type 0
NoNumberTwice A B =
    (start : Two A B) → BothNew A B start → (calls : List (Entry A.Call B.Call)) → AllDue A B start calls
    → NeverTwice (run A B start calls).a.history × NeverTwice (run A B start calls).b.history

-- Demand 3 says nothing of an end that is never told. So it is claimed too that a call to a closed end is turned away: the
-- caller's timer call sends a frame, the partner answers it, and that answer, delivered, closes the caller with notice 2.
pub record TurnedAway (caller partner : Endpoint) : Type 0 where
  pub call : Frame
  pub reply : Frame
  pub calls : request timer caller ≡ ok (says caller none call)
  pub replies : (step partner call).sent ≡ frame reply
  pub told : step caller reply ≡ quiet (turned closed 0 caller) rejected

-- what an open end sends
abbrev pub SentOpen : ℕ → Type 0
SentOpen k = (k ≡ CRACK) ⊎ ((k ≡ DATA) ⊎ (k ≡ ACK))

-- Nor is a closed end silent toward a partner still sending (document 02, N6): it answers whatever an open end sends, and that answer,
-- delivered, closes the open end with notice 3.
pub record Disowned (sender partner : Endpoint) : Type 0 where
  pub replies : (f : Frame) → SentOpen f.kind → f.sender ≡ sender.local → (step partner f).sent ≡ frame (control REJ partner.local sender.local)
  pub told : step sender (control REJ partner.local sender.local) ≡ quiet (turned closed 0 sender) closed_by_partner

-- of two ends, whichever of them calls or is open
pub record Told (a b : Endpoint) : Type 0 where
  pub a_open : a.state ≡ established → b.state ≡ closed → Disowned a b
  pub b_open : b.state ≡ established → a.state ≡ closed → Disowned b a
  pub a_calls : a.state ≡ active_opening → b.state ≡ closed → TurnedAway a b
  pub b_calls : b.state ≡ active_opening → a.state ≡ closed → TurnedAway b a

-- after every list
abbrev pub AlwaysTold : Type 0
AlwaysTold =
    (start : Two ends ends) → BothNew ends ends start → (calls : List (Entry Act Act)) → AllDue ends ends start calls
    → Told (now (run ends ends start calls).a.history) (now (run ends ends start calls).b.history)
