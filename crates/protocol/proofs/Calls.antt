-- The calls: when a request is allowed, and what each call does, as the facts say it.
use Prim.Native.Nat.{ℕ, zero, suc, ◌+◌, ◌*◌, ◌-◌, ◌≤◌, ◌<◌}
use mathlib.Core.Path.{◌≡◌, refl, sym, subst, ap, ◌∙◌}
use mathlib.Core.Logic.{◌⊎◌, inl, inr, ⊎_elim}
use mathlib.Core.Bool.{Bool, true, false}
use mathlib.Core.List.Memᴰ
use mathlib.Core.List.{List, [], ◌∷◌, ◌++◌, Memᴰ}
use native.Mathlib.Omega.{arith}
use borrow.Author.Tests.{eqb-true, ltb-true}
use lib.Dec.{T, eqb}
use lib.ListN.{length, get_or, length-append}
use lib.Seq.{get_or-append_seam}
use Rattle.octets.specs.Test.{Question, first, Outcome, refused, ok, outcome}
use Rattle.octets.proofs.Test.{split, if-eq, either}
use Rattle.frame.specs.Frame.{Block, Frame, control, data_frame, Request, connect, listen, end_listening, close, timer, collect, send}
use Rattle.protocol.specs.Endpoint.{Endpoint, waiting}
use Rattle.protocol.specs.Table.{none, Sent, nothing, frame, Step, quiet}
use Rattle.octets.specs.Sizes.{last_number, last_incarnation, page_size, numbers_each, queue_size}
use Rattle.protocol.specs.Requests.{request_questions, refusal, queueing, oldest, resent, hung_up, collected, accept, request}
use Rattle.page.specs.Page.{used_for}
use Rattle.protocol.specs.Restart.{restarted}
use Rattle.protocol.specs.History.{Call, ask, deliver, perform, endpoint_left, Act, call, restart, cut, does, Event, History, now, also, sent, recorded, after, ActDue}
use Rattle.protocol.specs.Claim.{block_sent, block_accepted, Restarts, Begins}
use Rattle.protocol.proofs.Facts.{alone, stays, hangs_up, drops, was_held, keeps, clears, takes, queues, Sane, Laden}
use Rattle.protocol.proofs.Facts.{move_local, Says, silence, crao, crpo, dr, datum, ack, Fires, fires, heard}

-- Questions: what holds of a refusal, and of the value where all answers are yes, holds of the outcome.
abbrev Numbered : List Question → Type 0
Numbered [] = Unit {0}
Numbered ((zero, b) ∷ qs) = ⊥
Numbered ((suc n, b) ∷ qs) = Numbered qs

abbrev Yes : List Question → Type 0
Yes [] = Unit {0}
Yes ((n, b) ∷ qs) = (b ≡ true) × Yes qs

asked : {A : Type 0} (P : Outcome A → Type 0) {x : A} (qs : List Question) → Numbered qs → ((n : ℕ) → P (refused n)) → (Yes qs → P (ok x))
    → P (outcome (first qs) x)
unfolding first outcome
asked P [] t n y = y tt
asked P ((zero, b) ∷ qs) t n y = absurd t
asked P {x} ((suc m, b) ∷ qs) t n y = split (λ (k : ℕ). P (outcome k x)) b (λ e. asked P qs t n (λ z. y (e, z))) (λ e. n (suc m))

-- the request begins no incarnation
abbrev pub within : Request → Bool
within connect = false
within listen = false
within end_listening = true
within close = true
within timer = true
within collect = true
within (send b) = true

-- when a request is allowed
abbrev pub Allowed : Request → Endpoint → Type 0
Allowed connect e = (e.state ≡ 0) × (e.local < last_incarnation)
Allowed listen e = (e.state ≡ 0) × (e.local < last_incarnation)
Allowed end_listening e = e.state ≡ 1
Allowed close e = (e.state ≡ 2) ⊎ (e.state ≡ 4)
Allowed (send b) e = (e.state ≡ 4) × (e.accepted < last_number) × (length e.queue < queue_size)
Allowed timer e = Unit {0}
Allowed collect e = e.state ≡ 4

pub requested : (P : Outcome Step → Type 0) (q : Request) (e : Endpoint) → ((n : ℕ) → P (refused n)) → (Allowed q e → P (ok (accept q e)))
    → P (request q e)
unfolding request refusal request_questions
requested P connect e n y = asked P (request_questions connect e) tt n (λ z. y (omega (arith, eqb-true, ltb-true)))
requested P listen e n y = asked P (request_questions listen e) tt n (λ z. y (omega (arith, eqb-true, ltb-true)))
requested P end_listening e n y = asked P (request_questions end_listening e) tt n (λ z. y (omega (arith, eqb-true, ltb-true)))
requested P close e n y =
    asked P (request_questions close e) tt n
    (λ z. y (⊎_elim (λ t. inl (eqb-true _ _ t)) (λ t. inr (eqb-true _ _ t)) (either (eqb e.state 2) (eqb e.state 4) z.0)))
requested P (send b) e n y = asked P (request_questions (send b) e) tt n (λ z. y (omega (arith, eqb-true, ltb-true)))
requested P timer e n y = asked P (request_questions timer e) tt n (λ z. y tt)
requested P collect e n y = asked P (request_questions collect e) tt n (λ z. y (omega (arith, eqb-true, ltb-true)))

-- The requests that begin no incarnation are as if some frame f were heard.
module _ {e : Endpoint} (f : Frame) (s : Sane e) (l : Laden e) where
  oldest-waits : e.state ≡ 4 → (q : List Block) → e.queue ≡ q → Says e f (oldest e q)
  unfolding oldest
  oldest-waits h [] p = silence
  oldest-waits h (b ∷ bs) p =
      datum (e.accepted - waiting e) b h (omega arith) (omega (arith, l.waits, ap length p))
      (ap (λ (n : ℕ). get_or e.queue n []) (omega arith) ∙ ap (λ (q : List Block). get_or q 0 []) p)

  timed : Says e f (resent e)
  unfolding resent
  timed = search (if-eq (Says e f), crao, crpo, dr, silence, oldest-waits) depth 10

  newest : (b : Block) → e.state ≡ 4 → Says (queueing b e) f (frame (data_frame e.local e.remote e.accepted b))
  newest b h =
      let len = length-append e.queue (b ∷ []) in
      let w = l.waits in
      datum e.accepted b h (omega arith) (omega arith)
      (ap (λ (n : ℕ). get_or (e.queue ++ (b ∷ [])) n []) (omega arith) ∙ get_or-append_seam e.queue b [] [])

  closes : 1 ≤ e.state → Fires e f [] (hung_up e)
  unfolding hung_up
  closes h =
      if-eq (Fires e f []) _ _
      (λ z. fires (drops h (alone z)) (clears tt tt) silence)
      (λ n. fires (hangs_up h (omega arith)) (clears tt tt) (dr refl))

  collects : e.state ≡ 4 → (b : Block) → get_or e.held 0 [] ≡ b → Fires e f [] (collected e b)
  unfolding collected
  collects h [] p = fires (stays refl refl refl) (keeps tt) silence
  collects h (x ∷ b) p = fires (stays refl refl refl) (takes h (was_held p (omega arith))) (ack _ h refl)

  pub asks-on : (q : Request) → T (within q) → Allowed q e → Fires e f (block_sent (ask q)) (accept q e)
  unfolding accept
  asks-on connect t a = absurd t
  asks-on listen t a = absurd t
  asks-on end_listening t a = fires (drops (omega arith) (alone (s.remote_none (omega arith)))) (clears tt tt) silence
  asks-on close t a = closes (⊎_elim (λ p. omega arith) (λ p. omega arith) a)
  asks-on (send b) t a = fires (stays refl refl refl) (queues b a.0 a.1 a.2) (newest b a.0)
  asks-on timer t a = fires (stays refl refl refl) (keeps tt) timed
  asks-on collect t a = collects a (get_or e.held 0 []) refl

-- The number that a call leaves: the same, or the next one where one is left.
pub record Next (e x : Endpoint) : Type 0 where
  pub least : e.local ≤ x.local
  pub most : x.local ≤ e.local + 1
  pub left : e.local ≤ last_incarnation → x.local ≤ last_incarnation

pub same_number : {e x : Endpoint} → x.local ≡ e.local → Next e x
same_number h = record { least = omega arith; most = omega arith; left = λ l. omega arith }

module _ (e : Endpoint) where
  hung-up-same : Next e (hung_up e).endpoint
  unfolding hung_up
  hung-up-same = if-eq (λ (x : Step). Next e x.endpoint) _ _ (λ z. same_number refl) (λ n. same_number refl)

  collected-same : (b : Block) → Next e (collected e b).endpoint
  unfolding collected
  collected-same [] = same_number refl
  collected-same (x ∷ b) = same_number refl

  request-next : (q : Request) → Allowed q e → Next e (accept q e).endpoint
  unfolding accept
  request-next connect y = record { least = omega arith; most = omega arith; left = λ l. omega arith }
  request-next listen y = record { least = omega arith; most = omega arith; left = λ l. omega arith }
  request-next end_listening y = same_number refl
  request-next close y = hung-up-same
  request-next (send b) y = same_number refl
  request-next timer y = same_number refl
  request-next collect y = collected-same (get_or e.held 0 [])

pub local_of : {e : Endpoint} {f : Frame} {bs : List Block} {x : Step} → Fires e f bs x → x.endpoint.local ≡ e.local
local_of (fires m c s) = move_local m

pub next_on : (c : Call) (e : Endpoint) → Next e (endpoint_left e (perform c e))
unfolding perform
next_on (ask q) e = requested (λ (o : Outcome Step). Next e (endpoint_left e o)) q e (λ n. same_number refl) (λ y. request-next e q y)
next_on (deliver f) e = same_number (local_of (heard e f))

-- of the frame sent, if there is one
abbrev pub Of : (Frame → Type 0) → Sent → Type 0
Of P nothing = Unit {0}
Of P (frame g) = P g

-- of the frames sent before and the one sent now
pub with_new : {P : Frame → Type 0} (o : Sent) {l : List Frame} → Of P o → ((g : Frame) → Memᴰ g l → P g)
    → (g : Frame) → Memᴰ g (also o l) → P g
with_new nothing p h g m = h g m
with_new {P} (frame f) p h g m = ⊎_elim (λ e. subst P (sym e) p) (λ n. h g n) (Memᴰ.cases_cons m)

-- a frame that the end b has sent, or none
pub data Heard (b : History) : Frame → Type 0 where
  no_frame : Heard b (control 0 0 0)
  from : {f : Frame} → Memᴰ f (sent b) → Heard b f

abbrev pub event : Act → History → Step → Event
event c h x = record { act = c; before = now h; answer = x }

-- What an act does at the end a, beside the end b.
pub data Deed (a b : History) (c : Act) : History → Type 0 where
  refuses : Deed a b c a
  connects : (now a).state ≡ 0 → (now a).local < last_incarnation → c ≡ call (ask connect) → Deed a b c (event c a (accept connect (now a)) ∷ a)
  listens : (now a).state ≡ 0 → (now a).local < last_incarnation → c ≡ call (ask listen) → Deed a b c (event c a (accept listen (now a)) ∷ a)
  goes : {f : Frame} {x : Step} → Heard b f → (Begins c → ⊥) → Fires (now a) f (block_accepted c) x → Deed a b c (event c a x ∷ a)
  -- on a page that reserves all numbers used
  restarts : (p : ℕ) → Restarts c → (now a).local ≤ numbers_each * p → p ≤ page_size → Deed a b c (event c a (quiet (restarted p) none) ∷ a)

-- a restart accepts no block and begins no incarnation
pub restart_accepts : (c : Act) → Restarts c → block_accepted c ≡ []
restart_accepts (call c) t = absurd t
restart_accepts restart t = refl
restart_accepts (cut c) t = refl

pub restart_begins : (c : Act) → Restarts c → Begins c → ⊥
restart_begins (call c) t u = absurd t
restart_begins restart t u = u
restart_begins (cut c) t u = u

module _ {a b : History} (s : Sane (now a)) (l : Laden (now a)) (w : (now a).local ≤ last_incarnation) where
  allowed : (q : Request) → Allowed q (now a) → Deed a b (call (ask q)) (event (call (ask q)) a (accept q (now a)) ∷ a)
  allowed connect y = connects y.0 y.1 refl
  allowed listen y = listens y.0 y.1 refl
  allowed end_listening y = goes no_frame (λ t. t) (asks-on _ s l end_listening tt y)
  allowed close y = goes no_frame (λ t. t) (asks-on _ s l close tt y)
  allowed timer y = goes no_frame (λ t. t) (asks-on _ s l timer tt y)
  allowed collect y = goes no_frame (λ t. t) (asks-on _ s l collect tt y)
  allowed (send c) y = goes no_frame (λ t. t) (asks-on _ s l (send c) tt y)

  called : (c : Call) → ActDue b (call c) → Deed a b (call c) (recorded (ok (call c)) (perform c (now a)) a)
  unfolding recorded perform
  called (ask q) d = requested (λ (o : Outcome Step). Deed a b (call (ask q)) (recorded (ok (call (ask q))) o a)) q (now a) (λ n. refuses) (λ y. allowed q y)
  called (deliver f) d = goes (from d) (λ t. t) (heard (now a) f)

  pub deed : (c : Act) → ActDue b c → Deed a b c (after c a)
  unfolding after recorded does
  deed (call c) d = called c d
  deed restart d = restarts (used_for (now a).local) tt (omega arith) (omega arith)
  deed (cut c) d =
      let k = next_on c (now a) in
      restarts (used_for (endpoint_left (now a) (perform c (now a))).local) tt (omega (arith, k.least)) (omega (arith, k.left w))
