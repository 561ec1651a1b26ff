-- A plan: what a call does to the numbers of a record, what becomes of its waiting blocks and of those held, and what is sent. No entry
-- point's contract needs this.
use Rattle.std.specs.Prelude.{ℕ, ◌≤◌, ◌<◌, ◌+◌, ◌-◌, ◌≡◌, ◌≢◌, Bool, true, false, ◌&&◌, List, [], ◌∷◌, ◌++◌, eqb, length, drop, get_or, replicate, Option, Some, None, Result, Ok, Err}
use Rattle.octets.specs.Sizes.{longest_block, queue_size, held_size}
use Rattle.octets.specs.Test.{when, if_eq, zeros, Outcome, refused, number_of}
use Rattle.octets.specs.Octets.{put}
use Rattle.octets.specs.declared.refusal.Refusal.{Refusal}
use Rattle.octets.specs.Refusal.{refusal_number}
use Rattle.frame.specs.Frame.{Block}
use Rattle.frame.specs.declared.Kind.TheVariants.{Data, Ack}
use Rattle.frame.specs.declared.Header.{Header}
use Rattle.frame.specs.Answer.{header_of, frame_of}
use Rattle.protocol.specs.Endpoint.{Endpoint, none_held, lengths_of}
use Rattle.protocol.specs.Table.{Sent, nothing, frame, Step, held_at}
use Rattle.call_spec.specs.Calls.{wire}
use Rattle.call_spec.specs.Answers.{notice_of, sent_in, endpoint_after}
use Rattle.step_rules.specs.declared.Numbers.{Numbers}
use Rattle.step_rules.specs.Internal.{holding}
use Rattle.step_plan.specs.declared.Places.{Places}
use Rattle.step_plan.specs.declared.Places.TheVariants.{Keep, Join, Release, Clear}
use Rattle.step_plan.specs.declared.Notice.{Notice}
use Rattle.step_plan.specs.declared.Notice.TheVariants.{Nothing, Connected, Rejected, ClosedByPartner, CloseFinished, HandedUp}
use Rattle.step_plan.specs.declared.Plan.{Plan}

-- document 01's number of the code's notice
abbrev pub told_notice : Notice → ℕ
told_notice Nothing = 0
told_notice Connected = 1
told_notice Rejected = 2
told_notice ClosedByPartner = 3
told_notice CloseFinished = 4
told_notice HandedUp = 5

-- the block that a notice tells of: with notice 5 that of the DATA received or, of a request, the first of the held ones; else none
unfoldable pub block_by : ℕ → Block → Block
block_by n b = if_eq n 5 b []

-- the waiting blocks q after the plan; b is the block that joins
unfoldable pub queue_after : Places → Block → List Block → List Block
queue_after Keep b q = q
queue_after (Join i) b q = q ++ (b ∷ [])
queue_after (Release k) b q = drop k q
queue_after Clear b q = []

-- where b joins w blocks there is a place for it, the next one, and no more leave than wait
abbrev pub Room : Places → Block → ℕ → Type 0
Room Keep b w = Unit {0}
Room (Join i) b w = (i ≡ w) × ((w < queue_size) × ((1 ≤ length b) × (length b ≤ longest_block)))
Room (Release k) b w = k ≤ w
Room Clear b w = Unit {0}

-- the held blocks h in their eight places after the plan; x is the block that joins
unfoldable pub held_after : Places → Block → List Block → List Block
held_after Keep x h = h
held_after (Join i) x h = held_at i x h
held_after (Release k) x h = drop k h ++ replicate k []
held_after Clear x h = none_held

-- where x joins, none is held at its place; where some leave, they are no more than there are places, and something changes
abbrev pub HeldRoom : Places → Block → List Block → Type 0
HeldRoom Keep x h = Unit {0}
HeldRoom (Join i) x h = (i < held_size) × ((get_or h i [] ≡ []) × ((1 ≤ length x) × (length x ≤ longest_block)))
HeldRoom (Release k) x h = (k ≤ held_size) × (drop k h ++ replicate k [] ≢ h)
HeldRoom Clear x h = none_held ≢ h

-- the block that goes out with a DATA: the one that joins, else the oldest
abbrev pub block_out : Places → Block → Block → Block
block_out Keep b old = old
block_out (Join i) b old = b
block_out (Release k) b old = old
block_out Clear b old = old

unfoldable pub sent_by : Option Header → Block → Sent
sent_by None b = nothing
sent_by (Some h) b = frame (frame_of h b)

-- the first of the waiting blocks, if there are any
abbrev pub Oldest : List Block → Block → Type 0
Oldest [] old = Unit {0}
Oldest (b ∷ q) old = b ≡ old

-- The plan p, which accepts, comes to the outcome o, of an endpoint with these numbers, the waiting blocks q and the held ones h; b is the block of the
-- message, which joins those that wait or those held, old the oldest that waits.
pub record Comes (n : Numbers) (q h : List Block) (b old : Block) (o : Outcome Step) (p : Plan) : Type 0 where
  pub accepted : number_of o ≡ 0
  pub notice : told_notice p.notice ≡ notice_of o
  pub endpoint : holding p.numbers (queue_after p.queue b q) (held_after p.held b h) ≡ endpoint_after (holding n q h) o
  pub counted : p.numbers.waiting ≡ length (queue_after p.queue b q)
  pub room : Room p.queue b (length q)
  pub place : HeldRoom p.held b h
  pub sent : sent_by p.reply (block_out p.queue b old) ≡ sent_in o

-- What a call that may refuse answers: a plan that comes to the outcome, or the refusal that the outcome is.
abbrev pub ComesOf : Numbers → List Block → List Block → Block → Block → Outcome Step → Result Plan Refusal → Type 0
ComesOf n q h b old o (Ok p) = Comes n q h b old o p
ComesOf n q h b old o (Err r) = o ≡ refused (refusal_number r)

-- of every endpoint of these numbers, whose held blocks have the lengths z
abbrev pub Planned : Numbers → List ℕ → Block → (Endpoint → Outcome Step) → Result Plan Refusal → Type 0
Planned n z b does r =
    (q h : List Block) (old : Block) → length q ≡ n.waiting → Oldest q old → lengths_of h ≡ z → ComesOf n q h b old (does (holding n q h)) r

-- A plan leaves an end of these numbers as it is: the waiting blocks change only with their count.
unfoldable pub staying : Places → Bool
staying Keep = true
staying (Join i) = false
staying (Release k) = false
staying Clear = false

unfoldable pub same_numbers : Numbers → Numbers → Bool
same_numbers n m =
    eqb n.state m.state
    && (eqb n.local m.local
    && (eqb n.remote m.remote
    && (eqb n.accepted m.accepted
    && (eqb n.delivered m.delivered && eqb n.waiting m.waiting))))

abbrev pub leaves_alone : Plan → Numbers → Bool
leaves_alone p n = same_numbers p.numbers n && staying p.held

-- What is left in the buffer where x is sent, and the count of its octets.
pub record Sends (x : Sent) (out out' : List ℕ) (n : ℕ) : Type 0 where
  pub count : n ≡ length (wire x)
  pub octets : out' ≡ put out 0 (wire x)

-- Plans that many rows share.

-- the blocks stay
abbrev pub keeping : Numbers → Notice → Option Header → Plan
keeping n notice reply = record { numbers = n; queue = Keep; held = Keep; notice = notice; reply = reply }

-- the first k held places, of these lengths, leave; where nothing is held, they stay
unfoldable pub leaving : List ℕ → ℕ → Places
leaving z k = when (zeros z) Keep (Release k)

-- every held place, of these lengths, is written afresh, and every place of w waiting blocks; where there is none, they stay
unfoldable pub clearing : List ℕ → Places
clearing z = when (zeros z) Keep Clear

unfoldable pub emptying : ℕ → Places
emptying w = if_eq w 0 Keep Clear

-- one block more is handed up, and the held places move down
abbrev pub delivering_numbers : Numbers → Numbers
delivering_numbers n = record n { delivered = n.delivered + 1 }

abbrev pub handing : Numbers → List ℕ → Plan
handing n z =
    record {
      numbers = delivering_numbers n;
      queue = Keep;
      held = leaving z 1;
      notice = HandedUp;
      reply = Some (header_of Ack n.local n.remote (n.delivered + 1));
    }

-- all blocks leave, in the same incarnation and in the next
abbrev pub turning : Numbers → List ℕ → ℕ → ℕ → Notice → Option Header → Plan
turning n z st d notice reply =
    record {
      numbers = record { state = st; local = n.local; remote = d; accepted = 0; delivered = 0; waiting = 0 };
      queue = emptying n.waiting;
      held = clearing z;
      notice = notice;
      reply = reply;
    }

abbrev pub beginning : Numbers → List ℕ → ℕ → Option Header → Plan
beginning n z st reply = turning (record n { local = n.local + 1 }) z st 0 Nothing reply

-- a block more waits
abbrev pub joining : Numbers → Plan
joining n =
    record {
      numbers = record n { accepted = n.accepted + 1; waiting = n.waiting + 1 };
      queue = Join n.waiting;
      held = Keep;
      notice = Nothing;
      reply = Some (header_of Data n.local n.remote n.accepted);
    }

-- the frame's block is held at place i
abbrev pub holding_plan : Numbers → ℕ → Plan
holding_plan n i =
    record { numbers = n; queue = Keep; held = Join i; notice = Nothing; reply = Some (header_of Ack n.local n.remote n.delivered) }

-- the k oldest blocks leave
abbrev pub releasing_plan : Numbers → ℕ → Plan
releasing_plan n k =
    record { numbers = record n { waiting = n.waiting - k }; queue = Release k; held = Keep; notice = Nothing; reply = None }
