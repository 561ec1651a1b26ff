-- What the step table does, as far as the theorem needs to know: how the endpoint moves, what becomes of its blocks, and
-- what it says. The rest of the proof sees these facts and not the table.
use Prim.Native.Nat.{ℕ, zero, suc, ◌+◌, ◌-◌, ◌≤◌, ◌<◌}
use mathlib.Core.Path.{◌≡◌, refl, sym, subst, ap, ◌∙◌}
use mathlib.Core.Logic.{◌≢◌}
use mathlib.Core.Bool.{Bool, true, false, not}
use mathlib.Core.List.{List, [], ◌∷◌, ◌++◌}
use native.Mathlib.Omega.{arith}
use lib.Dec.{T, eqb}
use lib.ListN.{length, drop, get_or, replicate, length-append, length-drop, length-set}
use lib.Seq.{get_or-drop, get_or-set_same, get_or-set_other}
use Rattle.octets.specs.Test.{if_eq, if_lt, zeros}
use Rattle.octets.proofs.Test.{if-eq, if-lt, by_eq}
use Rattle.frame.specs.Frame.{Block, CRAO, CRPO, CRACK, REJ, RESET, DR, DRACK, DATA, ACK, Frame, control, data_frame, ack_frame}
use Rattle.protocol.specs.declared.Rule.{Rule}
use Rattle.protocol.specs.declared.Rule.TheVariants.{Ignore, Refuse, AcceptDisconnect, Answer, Reset, OpenAndConfirm}
use Rattle.protocol.specs.declared.Rule.TheVariants.{CallAgain, Open, Rejected, RejectedByDisconnect, ListenAgain}
use Rattle.protocol.specs.declared.Rule.TheVariants.{ClosedByPartner, ClosedByRejection, Confirm, HandUp, Hold, Acknowledge, Release}
use Rattle.protocol.specs.declared.Rule.TheVariants.{FinishedByDisconnect, Finished}
use Rattle.protocol.specs.Endpoint.{Endpoint, waiting, none_held, lengths_of}
use Rattle.protocol.specs.Table.{when_closed, when_listening, when_active, when_passive, data_row, ack_row, open_rows}
use Rattle.protocol.specs.Table.{when_established, when_closing, rule}
use Rattle.protocol.specs.Table.{Notice, none, connected, rejected, closed_by_partner, close_finished, handed_up, Sent, nothing, frame, Step}
use Rattle.protocol.specs.Table.{moved_down, first_copy, held_at, turned, delivering, holding_early, releasing, apply, step}
use Rattle.octets.specs.Sizes.{last_number, queue_size, held_size}
use Rattle.protocol.specs.Requests.{queueing}

-- Why an endpoint that hears f may give its partner up.
pub data Excuse (e : Endpoint) (f : Frame) : Type 0 where
  newer : e.remote < f.sender → Excuse e f
  rejects : f.kind ≡ REJ → f.quoted ≡ e.local → e.remote ≤ f.sender → Excuse e f
  hung-up : f.kind ≡ DR → e.remote ≤ f.sender → Excuse e f
  drack_heard : f.kind ≡ DRACK → f.quoted ≡ e.local → e.remote ≤ f.sender → e.state ≡ 5 → Excuse e f
  alone : e.remote ≡ 0 → Excuse e f

-- How the endpoint e moves on hearing f, within its incarnation.
pub data Move (e : Endpoint) (f : Frame) : Endpoint → Type 0 where
  stays : {x : Endpoint} → x.state ≡ e.state → x.local ≡ e.local → x.remote ≡ e.remote → Move e f x
  answers : f.kind ≡ CRAO → e.remote ≤ f.sender → 1 ≤ e.state → e.state ≤ 3 → e.state ≢ 2 → Move e f (turned 3 f.sender e)
  recalls : f.kind ≡ CRAO → e.remote ≤ f.sender → e.state ≡ 2 → Move e f (turned 2 f.sender e)
  opens : 1 ≤ f.kind → f.kind ≤ 3 → f.quoted ≡ e.local → e.remote ≤ f.sender → e.state ≡ 2 → Move e f (turned 4 f.sender e)
  joins : f.kind ≡ CRACK → f.quoted ≡ e.local → f.sender ≡ e.remote → e.state ≡ 3 → Move e f (turned 4 f.sender e)
  relistens : f.kind ≡ REJ → f.quoted ≡ e.local → e.remote ≤ f.sender → e.state ≡ 3 → Move e f (turned 1 0 e)
  resets : f.kind ≡ RESET → f.quoted ≡ e.local → e.remote ≤ f.sender → e.state ≡ 3 → Move e f (turned 1 0 e)
  hangs_up : 1 ≤ e.state → 1 ≤ e.remote → Move e f (turned 5 e.remote e)
  drops : 1 ≤ e.state → Excuse e f → Move e f (turned 0 0 e)

-- no move changes the number
pub move_local : {e x : Endpoint} {f : Frame} → Move e f x → x.local ≡ e.local
move_local (stays p q r) = q
move_local (answers k d p q n) = refl
move_local (recalls k d p) = refl
move_local (opens k l r d p) = refl
move_local (joins k r d p) = refl
move_local (relistens k r d p) = refl
move_local (resets k r d p) = refl
move_local (hangs_up p d) = refl
move_local (drops p u) = refl

abbrev pub silent : Notice → Bool
silent none = true
silent connected = true
silent rejected = true
silent closed_by_partner = true
silent close_finished = true
silent (handed_up b) = false

-- Where a block that is handed up comes from: the DATA heard, or the first of the places.
pub data Source (e : Endpoint) (f : Frame) : Block → Type 0 where
  arrives : f.kind ≡ DATA → f.quoted ≡ e.local → f.sender ≡ e.remote → f.number ≡ e.delivered → Source e f f.block
  was_held : {b : Block} → get_or e.held 0 [] ≡ b → 1 ≤ length b → Source e f b

-- What becomes of the blocks: e turns into x with the notice n, and accepts bs to send.
pub data Carry (e : Endpoint) (f : Frame) : Endpoint → Notice → List Block → Type 0 where
  keeps : {n : Notice} → T (silent n) → Carry e f e n []
  clears : {st d : ℕ} {n : Notice} → T (not (eqb st 4)) → T (silent n) → Carry e f (turned st d e) n []
  begins : {d : ℕ} {n : Notice} → 2 ≤ e.state → e.state ≤ 3 → T (silent n) → Carry e f (turned 4 d e) n []
  takes : {b : Block} → e.state ≡ 4 → Source e f b → Carry e f (delivering e) (handed_up b) []
  overtakes : f.kind ≡ DATA → f.quoted ≡ e.local → f.sender ≡ e.remote → e.state ≡ 4 → e.delivered ≤ f.number → f.number < e.delivered + held_size
      → Carry e f (holding_early f.number f.block e) none []
  releases : e.state ≡ 4 → e.accepted - waiting e < f.number → f.number ≤ e.accepted → Carry e f (releasing f.number e) none []
  queues : (b : Block) → e.state ≡ 4 → e.accepted < last_number → waiting e < queue_size → Carry e f (queueing b e) none (b ∷ [])

-- What holds of the numbers of a sound endpoint: its state and its incarnations, and its blocks.
pub record Sane (e : Endpoint) : Type 0 where
  pub known : e.state ≤ 5
  pub local≥ : 1 ≤ e.state → 1 ≤ e.local
  pub remote_none : e.state ≤ 1 → e.remote ≡ 0
  pub remote≥ : 3 ≤ e.state → 1 ≤ e.remote

pub record Laden (e : Endpoint) : Type 0 where
  pub waits : length e.queue ≤ e.accepted
  pub places : length e.queue ≤ 8
  pub eight : length e.held ≡ 8
  pub idle : e.state ≢ 4 → (e.accepted ≡ 0) × (e.delivered ≡ 0) × (zeros (lengths_of e.held) ≡ true)

-- What an endpoint that is x after hearing f says.
pub data Says (x : Endpoint) (f : Frame) : Sent → Type 0 where
  silence : Says x f nothing
  crao : x.state ≡ 2 → Says x f (frame (control CRAO x.local x.remote))
  crpo : x.state ≡ 3 → Says x f (frame (control CRPO x.local x.remote))
  crack : x.state ≡ 4 → Says x f (frame (control CRACK x.local x.remote))
  rej : x.state ≡ 0 → 1 ≤ f.kind → f.kind ≢ REJ → f.kind ≢ DRACK → Says x f (frame (control REJ x.local f.sender))
  reset_said : 1 ≤ x.state → x.state ≤ 3 → x.state ≢ 2 → f.kind ≡ CRPO → Says x f (frame (control RESET x.local f.sender))
  dr : x.state ≡ 5 → Says x f (frame (control DR x.local x.remote))
  drack : f.kind ≡ DR → x.state ≤ 1 → Says x f (frame (control DRACK x.local f.sender))
  drack_to_other : f.kind ≡ DR → 2 ≤ x.state → x.state ≤ 3 → f.quoted ≢ x.local → Says x f (frame (control DRACK x.local f.sender))
  -- a DATA numbered m has the waiting block with that number
  datum : (m : ℕ) (b : Block) → x.state ≡ 4 → x.accepted - waiting x ≤ m → m < x.accepted → get_or x.queue (m - (x.accepted - waiting x)) [] ≡ b
      → Says x f (frame (data_frame x.local x.remote m b))
  ack : (m : ℕ) → x.state ≡ 4 → m ≡ x.delivered → Says x f (frame (ack_frame x.local x.remote m))

abbrev pub step_to : Endpoint → Notice → Sent → Step
step_to x n o = record { endpoint = x; notice = n; sent = o }

-- A step as a whole: how it moves, what becomes of the blocks, what it says.
pub data Fires (e : Endpoint) (f : Frame) (bs : List Block) : Step → Type 0 where
  fires : {x : Endpoint} {n : Notice} {o : Sent} → Move e f x → Carry e f x n bs → Says x f o → Fires e f bs (step_to x n o)

-- What the table has found where it chooses a rule; s < D has been passed.
pub data Found (e : Endpoint) (f : Frame) : Rule → Type 0 where
  ignore : Found e f Ignore
  refuse_crao : e.state ≡ 0 → f.kind ≡ CRAO → Found e f Refuse
  refuse_crpo : e.state ≡ 0 → f.kind ≡ CRPO → Found e f Refuse
  refuse_crack : e.state ≡ 0 → f.kind ≡ CRACK → Found e f Refuse
  refuse_data : e.state ≡ 0 → f.kind ≡ DATA → Found e f Refuse
  refuse_ack : e.state ≡ 0 → f.kind ≡ ACK → Found e f Refuse
  accept_dr : e.state ≤ 1 → f.kind ≡ DR → Found e f AcceptDisconnect
  accept_other : 2 ≤ e.state → e.state ≤ 3 → f.kind ≡ DR → f.quoted ≢ e.local → Found e f AcceptDisconnect
  answer : 1 ≤ e.state → e.state ≤ 3 → e.state ≢ 2 → f.kind ≡ CRAO → e.remote ≤ f.sender → Found e f Answer
  reset : 1 ≤ e.state → e.state ≤ 3 → e.state ≢ 2 → f.kind ≡ CRPO → Found e f Reset
  open_crao : e.state ≡ 2 → f.kind ≡ CRAO → f.quoted ≡ e.local → e.remote ≤ f.sender → Found e f OpenAndConfirm
  open_crpo : e.state ≡ 2 → f.kind ≡ CRPO → f.quoted ≡ e.local → e.remote ≤ f.sender → Found e f OpenAndConfirm
  call : e.state ≡ 2 → f.kind ≡ CRAO → e.remote ≤ f.sender → Found e f CallAgain
  open_active : e.state ≡ 2 → f.kind ≡ CRACK → f.quoted ≡ e.local → e.remote ≤ f.sender → Found e f Open
  open_passive : e.state ≡ 3 → f.kind ≡ CRACK → f.sender ≡ e.remote → f.quoted ≡ e.local → Found e f Open
  reject : 1 ≤ e.state → f.kind ≡ REJ → f.quoted ≡ e.local → e.remote ≤ f.sender → Found e f Rejected
  reject_dr : 1 ≤ e.state → f.kind ≡ DR → e.remote ≤ f.sender → Found e f RejectedByDisconnect
  listen_rej : e.state ≡ 3 → f.kind ≡ REJ → f.quoted ≡ e.local → e.remote ≤ f.sender → Found e f ListenAgain
  listen_reset : e.state ≡ 3 → f.kind ≡ RESET → f.quoted ≡ e.local → e.remote ≤ f.sender → Found e f ListenAgain
  partner : 1 ≤ e.state → f.kind ≡ DR → e.remote ≤ f.sender → Found e f ClosedByPartner
  rejection : 1 ≤ e.state → f.kind ≡ REJ → f.quoted ≡ e.local → e.remote ≤ f.sender → Found e f ClosedByRejection
  confirm : e.state ≡ 4 → Found e f Confirm
  hand_up : e.state ≡ 4 → f.kind ≡ DATA → f.sender ≡ e.remote → f.quoted ≡ e.local → f.number ≡ e.delivered → Found e f HandUp
  hold : e.state ≡ 4 → f.kind ≡ DATA → f.sender ≡ e.remote → f.quoted ≡ e.local → e.delivered ≤ f.number → f.number < e.delivered + held_size
      → Found e f Hold
  acknowledge : e.state ≡ 4 → Found e f Acknowledge
  release : e.state ≡ 4 → e.accepted - waiting e < f.number → f.number ≤ e.accepted → Found e f Release
  finish_dr : 1 ≤ e.state → f.kind ≡ DR → e.remote ≤ f.sender → Found e f FinishedByDisconnect
  finish : 1 ≤ e.state → Excuse e f → Found e f Finished

eq-found : {e : Endpoint} {f : Frame} (a b : ℕ) {x y : Rule} → (a ≡ b → Found e f x) → (a ≢ b → Found e f y) → Found e f (if_eq a b x y)
eq-found {e} {f} = if-eq (Found e f)

lt-found : {e : Endpoint} {f : Frame} (a b : ℕ) {x y : Rule} → (a < b → Found e f x) → (b ≤ a → Found e f y) → Found e f (if_lt a b x y)
lt-found {e} {f} = if-lt (Found e f)

ruleset opening = (refuse_crao, refuse_crpo, refuse_crack, refuse_data, refuse_ack, accept_dr, accept_other, answer, reset, open_crao, open_crpo, call, open_active, open_passive)

ruleset ending = (reject, reject_dr, listen_rej, listen_reset, partner, rejection, finish_dr, finish, newer, rejects, drack_heard)

ruleset talking = (confirm, hand_up, hold, acknowledge, release)

-- what is found by a row, and by the rows below it
ruleset row = (eq-found, lt-found, ignore, opening, ending, talking)

-- A state at a time. s < D has been passed.
module _ (e : Endpoint) (f : Frame) (d : e.remote ≤ f.sender) where
  on-closed : e.state ≡ 0 → Found e f (when_closed e f)
  unfolding when_closed
  on-closed h =
      let most : e.state ≤ 1 = omega arith in
      search row depth 20

  on-listening : e.state ≡ 1 → Found e f (when_listening e f)
  unfolding when_listening
  on-listening h =
      let least : 1 ≤ e.state = omega arith in
      let most : e.state ≤ 1 = omega arith in
      let early : e.state ≤ 3 = omega arith in
      let hearing : e.state ≢ 2 = omega arith in
      search row depth 20

  on-active : e.state ≡ 2 → Found e f (when_active e f)
  unfolding when_active
  on-active h =
      let least : 1 ≤ e.state = omega arith in
      let opening-state : 2 ≤ e.state = omega arith in
      let early : e.state ≤ 3 = omega arith in
      search row depth 20

  on-passive : e.state ≡ 3 → Found e f (when_passive e f)
  unfolding when_passive
  on-passive h =
      let least : 1 ≤ e.state = omega arith in
      let opening-state : 2 ≤ e.state = omega arith in
      let early : e.state ≤ 3 = omega arith in
      let hearing : e.state ≢ 2 = omega arith in
      search row depth 20

  on-established : e.state ≡ 4 → Found e f (when_established e f)
  unfolding when_established open_rows data_row ack_row
  on-established h =
      let least : 1 ≤ e.state = omega arith in
      search row depth 20

  on-closing : e.state ≡ 5 → Found e f (when_closing e f)
  unfolding when_closing
  on-closing h =
      let least : 1 ≤ e.state = omega arith in
      search row depth 20

pub found : (e : Endpoint) (f : Frame) → Found e f (rule e f)
unfolding rule
found e f = search (eq-found, lt-found, ignore, on-closed, on-listening, on-active, on-passive, on-established, on-closing) depth 20

does : {e : Endpoint} {f : Frame} {r : Rule} → Found e f r → Fires e f [] (apply r e f)
unfolding apply
does ignore = fires (stays refl refl refl) (keeps tt) silence
does (refuse_crao h k) = fires (stays refl refl refl) (keeps tt) (rej h (omega arith) (omega arith) (omega arith))
does (refuse_crpo h k) = fires (stays refl refl refl) (keeps tt) (rej h (omega arith) (omega arith) (omega arith))
does (refuse_crack h k) = fires (stays refl refl refl) (keeps tt) (rej h (omega arith) (omega arith) (omega arith))
does (refuse_data h k) = fires (stays refl refl refl) (keeps tt) (rej h (omega arith) (omega arith) (omega arith))
does (refuse_ack h k) = fires (stays refl refl refl) (keeps tt) (rej h (omega arith) (omega arith) (omega arith))
does (accept_dr h k) = fires (stays refl refl refl) (keeps tt) (drack k h)
does (accept_other h i k r) = fires (stays refl refl refl) (keeps tt) (drack_to_other k h i r)
does (answer h i j k d) = fires (answers k d h i j) (clears tt tt) (crpo refl)
does (reset h i j k) = fires (stays refl refl refl) (keeps tt) (reset_said h i j k)
does (open_crao h k r d) = fires (opens (omega arith) (omega arith) r d h) (begins (omega arith) (omega arith) tt) (crack refl)
does (open_crpo h k r d) = fires (opens (omega arith) (omega arith) r d h) (begins (omega arith) (omega arith) tt) (crack refl)
does (call h k d) = fires (recalls k d h) (clears tt tt) (crao refl)
does (open_active h k r d) = fires (opens (omega arith) (omega arith) r d h) (begins (omega arith) (omega arith) tt) silence
does (open_passive h k m r) = fires (joins k r m h) (begins (omega arith) (omega arith) tt) silence
does (reject h k r d) = fires (drops h (rejects k r d)) (clears tt tt) silence
does (reject_dr h k d) = fires (drops h (hung-up k d)) (clears tt tt) (drack k (omega arith))
does (listen_rej h k r d) = fires (relistens k r d h) (clears tt tt) silence
does (listen_reset h k r d) = fires (resets k r d h) (clears tt tt) silence
does (partner h k d) = fires (drops h (hung-up k d)) (clears tt tt) (drack k (omega arith))
does (rejection h k r d) = fires (drops h (rejects k r d)) (clears tt tt) silence
does (confirm h) = fires (stays refl refl refl) (keeps tt) (crack h)
does (hand_up h k m r n) = fires (stays refl refl refl) (takes h (arrives k r m n)) (ack _ h refl)
does (hold h k m r a b) = fires (stays refl refl refl) (overtakes k r m h a b) (ack _ h refl)
does (acknowledge h) = fires (stays refl refl refl) (keeps tt) (ack _ h refl)
does (release h i j) = fires (stays refl refl refl) (releases h i j) silence
does (finish_dr h k d) = fires (drops h (hung-up k d)) (clears tt tt) (drack k (omega arith))
does (finish h x) = fires (drops h x) (clears tt tt) silence

pub heard : (e : Endpoint) (f : Frame) → Fires e f [] (step e f)
unfolding step
heard e f = does (found e f)

-- The places for early blocks.
pub length_moved : (held : List Block) → length held ≡ 8 → length (moved_down held) ≡ 8
unfolding moved_down
length_moved held h = omega (arith, length-append (drop 1 held) ([] ∷ []), length-drop 1 held)

pub length_held : (i : ℕ) (b : Block) (held : List Block) → length (held_at i b held) ≡ length held
unfolding held_at
length_held i b held = length-set held i (first_copy (get_or held i []) b)

-- one place more, with nothing in it, is as none
more-none : (held : List Block) (i : ℕ) → get_or (held ++ ([] ∷ [])) i [] ≡ get_or held i []
more-none [] zero = refl
more-none [] (suc i) = refl
more-none (b ∷ held) zero = refl
more-none (b ∷ held) (suc i) = more-none held i

pub get_d_moved : (held : List Block) (i : ℕ) → get_or (moved_down held) i [] ≡ get_or held (1 + i) []
unfolding moved_down
get_d_moved held i = more-none (drop 1 held) i ∙ get_or-drop 1 held i []

none_in : (n i : ℕ) → get_or {A = Block} (replicate n []) i [] ≡ []
none_in zero i = refl
none_in (suc n) zero = refl
none_in (suc n) (suc i) = none_in n i

pub none-at : (i : ℕ) → get_or none_held i [] ≡ []
none-at i = none_in 8 i

-- What holds of each block that is held, and of its place.
abbrev pub Each : (ℕ → Block → Type 0) → List Block → Type 0
Each P held = (i : ℕ) → 1 ≤ length (get_or held i []) → P i (get_or held i [])

-- nothing is held in eight empty places
pub none_held_lem : {A : Type 0} (i : ℕ) → 1 ≤ length (get_or none_held i []) → A
none_held_lem i n = absurd (omega (arith, ap length (none-at i)))

pub each_moved : (P Q : ℕ → Block → Type 0) (held : List Block) → ((i : ℕ) (b : Block) → P (1 + i) b → Q i b) → Each P held → Each Q (moved_down held)
each_moved P Q held f h i n =
    let e = get_d_moved held i in
    subst (λ (b : Block). Q i b) (sym e) (f i (get_or held (1 + i) []) (h (1 + i) (subst (λ (b : Block). 1 ≤ length b) e n)))

pub first_is : (P : Block → Type 0) (c b : Block) → (1 ≤ length c → P c) → P b → P (first_copy c b)
unfolding first_copy
first_is P [] b h k = k
first_is P (x ∷ c) b h k = h (omega arith)

pub held_same : (i : ℕ) (b : Block) (held : List Block) → i < length held → get_or (held_at i b held) i [] ≡ first_copy (get_or held i []) b
unfolding held_at
held_same i b held h = get_or-set_same held i (first_copy (get_or held i []) b) [] h

pub held_other : (i j : ℕ) (b : Block) (held : List Block) → j ≢ i → get_or (held_at i b held) j [] ≡ get_or held j []
unfolding held_at
held_other i j b held h = get_or-set_other held i j (first_copy (get_or held i []) b) [] h

pub each_held : (P : ℕ → Block → Type 0) (i : ℕ) (b : Block) (held : List Block) → i < length held → P i b → Each P held → Each P (held_at i b held)
each_held P i b held l p h j n =
    by_eq j i
    (λ e.
    subst (λ (k : ℕ). P k (get_or (held_at i b held) k [])) (sym e)
    (subst (λ (c : Block). P i c) (sym (held_same i b held l)) (first_is (λ (c : Block). P i c) (get_or held i []) b (h i) p)))
    (λ e.
    let o = held_other i j b held e in
    subst (λ (c : Block). P j c) (sym o) (h j (subst (λ (c : Block). 1 ≤ length c) o n)))

pub none_lengths : zeros (lengths_of none_held) ≡ true
unfolding zeros lengths_of
none_lengths = refl

pub load : {e : Endpoint} {f : Frame} {x : Endpoint} {n : Notice} {bs : List Block} → Laden e → Carry e f x n bs → Laden x
load l (keeps t) = l
load l (clears t u) = record { waits = omega arith; places = omega arith; eight = refl; idle = λ n. (refl, refl, none_lengths) }
load l (begins p q t) = record { waits = omega arith; places = omega arith; eight = refl; idle = λ n. (refl, refl, none_lengths) }
load {e} l (takes p s) = record { waits = l.waits; places = l.places; eight = length_moved e.held l.eight; idle = λ n. absurd (n p) }
load {e} {f = f} l (overtakes k r d p a b) =
    record {
      waits = l.waits;
      places = l.places;
      eight = length_held (f.number - e.delivered) f.block e.held ∙ l.eight;
      idle = λ n. absurd (n p);
    }
load {e} {f = f} l (releases p q r) =
    let len = length-drop (f.number - (e.accepted - waiting e)) e.queue in
    record { waits = omega (arith, l.waits); places = omega (arith, l.places); eight = l.eight; idle = λ n. absurd (n p) }
load {e} l (queues b p t w) =
    let len = length-append e.queue (b ∷ []) in
    record { waits = omega (arith, l.waits); places = omega arith; eight = l.eight; idle = λ n. absurd (n p) }

-- A move keeps the numbers sane, if a frame that may open has a sender.
pub sane_on : {e x : Endpoint} {f : Frame} → Sane e → (1 ≤ f.kind → f.kind ≢ REJ → f.kind ≢ DRACK → 1 ≤ f.sender) → Move e f x → Sane x
sane_on s u (stays p q r) = record {
  known = omega (arith, s.known);
  local≥ = λ a. omega (arith, s.local≥ (omega arith));
  remote_none = λ a. omega (arith, s.remote_none (omega arith));
  remote≥ = λ a. omega (arith, s.remote≥ (omega arith));
}
sane_on s u (answers k d p q n) = omega (arith, s.local≥ p, u (omega arith) (omega arith) (omega arith))
sane_on s u (recalls k d p) = omega (arith, s.local≥ (omega arith))
sane_on s u (opens k l r d p) = omega (arith, s.local≥ (omega arith), u k (omega arith) (omega arith))
sane_on s u (joins k r d p) = omega (arith, s.local≥ (omega arith), s.remote≥ (omega arith))
sane_on s u (relistens k r d p) = omega (arith, s.local≥ (omega arith))
sane_on s u (resets k r d p) = omega (arith, s.local≥ (omega arith))
sane_on s u (hangs_up p d) = omega (arith, s.local≥ p)
sane_on s u (drops p y) = omega arith
