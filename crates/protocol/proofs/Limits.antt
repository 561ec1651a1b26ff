-- Every endpoint that a list of calls reaches is sound, its numbers have 32 bits, and every frame sent fits.
use Prim.Native.Nat.{ℕ, ◌+◌, ◌-◌, ◌≤◌, ◌<◌}
use mathlib.Core.Path.{◌≡◌, refl, sym, subst, ap}
use mathlib.Core.Logic.{◌≢◌}
use mathlib.Core.Bool.{true}
use mathlib.Core.List.Memᴰ
use mathlib.Core.List.{List, [], ◌∷◌, Memᴰ}
use native.Mathlib.Omega.{arith}
use lib.ListN.{length}
use Rattle.frame.specs.Frame.{Block, CRAO, CRPO, CRACK, REJ, RESET, DR, DRACK, DATA, Frame, control}
use Rattle.frame.specs.Frame.{Request, connect, listen, end_listening, close, timer, collect, send}
use Rattle.protocol.specs.Endpoint.{Endpoint, waiting, sized, sound}
use Rattle.protocol.specs.Table.{Notice, Sent, frame, Step}
use Rattle.octets.specs.Sizes.{last_number, last_incarnation}
use Rattle.protocol.specs.Requests.{begun, accept}
use Rattle.protocol.specs.History.{Call, ask, deliver, perform, Act, History, now, sent}
use Rattle.protocol.specs.Claim.{block_sent, block_accepted}
use Rattle.protocol.specs.Limits.{Bounded, Readable, Leaves, CallSound, CallBounded}
use Rattle.frame.specs.Fits.{Fits, control_fits, data_fits, ack_fits}
use Rattle.protocol.proofs.Facts.{Move, stays, answers, recalls, opens, joins, relistens, resets, hangs_up, drops}
use Rattle.protocol.proofs.Facts.{Each, none_held_lem, each_moved, each_held, none_lengths}
use Rattle.protocol.proofs.Facts.{Source, arrives, was_held, Carry, keeps, clears, begins, takes, overtakes, releases, queues, Fires, fires, heard}
use Rattle.protocol.proofs.Facts.{Says, silence, crao, crpo, crack, rej, reset_said, dr, drack, drack_to_other, datum, ack}
use Rattle.protocol.proofs.Facts.{Sane, sane_on, Laden, load}
use Rattle.protocol.proofs.Sound.{sized-append, sized-drop, sized-at, Fitting, sounds, Sound, sound_so}
use Rattle.protocol.proofs.Calls.{Of, with_new, Heard, no_frame, from, Deed, refuses, connects, listens, goes, restarts, Allowed, requested, asks-on}
use Rattle.protocol.proofs.Invariant.{back}

-- what is known of the frame that a call hears
record Small (f : Frame) : Type 0 where
  sender≥ : 1 ≤ f.kind → f.kind ≢ REJ → f.kind ≢ DRACK → 1 ≤ f.sender
  sender≤ : f.sender ≤ last_number
  number< : f.kind ≡ DATA → f.number < last_number
  block≤ : f.kind ≡ DATA → length f.block ≤ 64

small : {f : Frame} → Fits f → Small f
small (control_fits k a b c d e g) = record { sender≥ = λ _ p q. c p q; sender≤ = d; number< = λ z. absurd (omega arith); block≤ = λ z. absurd (omega arith) }
small (data_fits a b c d e g i) = record { sender≥ = λ _ _ _. a; sender≤ = b; number< = λ _. e; block≤ = λ _. i }
small (ack_fits a b c d e) = record { sender≥ = λ _ _ _. a; sender≤ = b; number< = λ k. absurd (omega arith); block≤ = λ k. absurd (omega arith) }

small-none : Small (control 0 0 0)
small-none = omega arith

sized-none : sized [] ≡ true
unfolding sized
sized-none = refl

-- within an incarnation
bounded_on : {e x : Endpoint} {f : Frame} {n : Notice} {bs : List Block} → Small f → Bounded e → Each (Fitting e.delivered) e.held → Move e f x
    → Carry e f x n bs → Bounded x
bounded_on {e} {x} {f} u v z m k = record {
  local≤ = omega (arith, v.local≤, (back m).local);
  remote≤ = remote m;
  accepted≤ = accepted k;
  delivered≤ = delivered k;
}
  where
    remote : {x : Endpoint} → Move e f x → x.remote ≤ last_number
    remote (stays p q r) = omega (arith, v.remote≤)
    remote (answers k d p q n) = u.sender≤
    remote (recalls k d p) = u.sender≤
    remote (opens k l r d p) = u.sender≤
    remote (joins k r d p) = u.sender≤
    remote (relistens k r d p) = omega arith
    remote (resets k r d p) = omega arith
    remote (hangs_up p d) = v.remote≤
    remote (drops p y) = omega arith

    accepted : {x : Endpoint} {n : Notice} {bs : List Block} → Carry e f x n bs → x.accepted ≤ last_number
    accepted (keeps t) = v.accepted≤
    accepted (clears t t') = omega arith
    accepted (begins p q t) = omega arith
    accepted (takes p s) = v.accepted≤
    accepted (overtakes k r d p a b) = v.accepted≤
    accepted (releases p q r) = v.accepted≤
    accepted (queues b p q r) = omega arith

    -- a block that is handed up has a number of at most 4294967294
    handed : {b : Block} → Source e f b → e.delivered < last_number
    handed (arrives k r d n) = omega (arith, u.number< k)
    handed (was_held p q) = omega (arith, (z 0 (subst (λ (b : Block). 1 ≤ length b) (sym p) q)).1)

    delivered : {x : Endpoint} {n : Notice} {bs : List Block} → Carry e f x n bs → x.delivered ≤ last_number
    delivered (keeps t) = v.delivered≤
    delivered (clears t t') = omega arith
    delivered (begins p q t) = omega arith
    delivered (takes p s) = omega (arith, handed s)
    delivered (overtakes k r d p a b) = v.delivered≤
    delivered (releases p q r) = v.delivered≤
    delivered (queues b p q r) = v.delivered≤

sized_on : {e : Endpoint} {f : Frame} {x : Endpoint} {n : Notice} {bs : List Block} → sized e.queue ≡ true → sized bs ≡ true → Carry e f x n bs
    → sized x.queue ≡ true
sized_on q t (keeps p) = q
sized_on q t (clears p r) = t
sized_on q t (begins p r u) = t
sized_on q t (takes p s) = q
sized_on q t (overtakes k r d p a b) = q
sized_on {e} {f = f} q t (releases p r u) = sized-drop (f.number - (e.accepted - waiting e)) e.queue q
sized_on {e} q t (queues b p r u) = sized-append e.queue (b ∷ []) q t

-- what is held early fits
fitting_on : {e : Endpoint} {f : Frame} {x : Endpoint} {n : Notice} {bs : List Block} → Small f → Laden e → Each (Fitting e.delivered) e.held
    → Carry e f x n bs → Each (Fitting x.delivered) x.held
fitting_on u l z (keeps p) = z
fitting_on u l z (clears p r) = λ i n. none_held_lem i n
fitting_on u l z (begins p r t) = λ i n. none_held_lem i n
fitting_on {e} u l z (takes p s) =
    each_moved (Fitting e.delivered) (Fitting (e.delivered + 1)) e.held (λ i b h. (h.0, omega (arith, h.1))) z
fitting_on {e} {f = f} u l z (overtakes k r d p a b) =
    each_held (Fitting e.delivered) (f.number - e.delivered) f.block e.held (omega (arith, l.eight))
    (u.block≤ k, omega (arith, u.number< k)) z
fitting_on u l z (releases p r t) = z
fitting_on u l z (queues b p r t) = z

-- what is said fits
module _ {x : Endpoint} {f : Frame} (u : Small f) (s : Sane x) (l : Laden x) (v : Bounded x) (q : sized x.queue ≡ true) where
  -- kind(L, D), of an end that knows its partner
  to-partner : (k : ℕ) → 1 ≤ k → k ≤ DRACK → 2 ≤ x.state → (k ≢ CRAO → 3 ≤ x.state) → Fits (control k x.local x.remote)
  to-partner k lo hi p r = control_fits k lo hi (λ _ _. s.local≥ (omega arith)) v.local≤ (λ n. s.remote≥ (r n)) v.remote≤

  -- kind(L, s)
  to-sender : (k : ℕ) → 1 ≤ k → k ≤ DRACK → (k ≢ REJ → k ≢ DRACK → 1 ≤ x.state) → 1 ≤ f.kind → f.kind ≢ REJ → f.kind ≢ DRACK
      → Fits (control k x.local f.sender)
  to-sender k lo hi p a b c = control_fits k lo hi (λ m n. s.local≥ (p m n)) v.local≤ (λ _. u.sender≥ a b c) u.sender≤

  fits_on : {o : Sent} → Says x f o → Of Fits o
  fits_on silence = tt
  fits_on (crao p) = to-partner CRAO (omega arith) (omega arith) (omega arith) (λ n. absurd (n refl))
  fits_on (crpo p) = to-partner CRPO (omega arith) (omega arith) (omega arith) (λ _. omega arith)
  fits_on (crack p) = to-partner CRACK (omega arith) (omega arith) (omega arith) (λ _. omega arith)
  fits_on (rej p a b c) = to-sender REJ (omega arith) (omega arith) (λ n _. absurd (n refl)) a b c
  fits_on (reset_said a b c k) = to-sender RESET (omega arith) (omega arith) (λ _ _. a) (omega arith) (omega arith) (omega arith)
  fits_on (dr p) = to-partner DR (omega arith) (omega arith) (omega arith) (λ _. omega arith)
  fits_on (drack k p) = to-sender DRACK (omega arith) (omega arith) (λ _ n. absurd (n refl)) (omega arith) (omega arith) (omega arith)
  fits_on (drack_to_other k a b c) = to-sender DRACK (omega arith) (omega arith) (λ _ n. absurd (n refl)) (omega arith) (omega arith) (omega arith)
  fits_on (datum m b p a c e) =
      let z = sized-at (m - (x.accepted - waiting x)) x.queue q (omega (arith, l.waits)) in
      let w = ap length e in
      data_fits {n = m} {b = b} (s.local≥ (omega arith)) v.local≤ (s.remote≥ (omega arith)) v.remote≤
      (omega (arith, v.accepted≤)) (omega arith) (omega arith)
  fits_on (ack m p e) = ack_fits {n = m} (s.local≥ (omega arith)) v.local≤ (s.remote≥ (omega arith)) v.remote≤ (omega (arith, v.delivered≤))

-- Every call of a sound endpoint leaves it sound.
sound_on : {e : Endpoint} {f : Frame} {bs : List Block} {x : Step} → Sound e → Small f → sized bs ≡ true → Fires e f bs x → sound x.endpoint ≡ true
sound_on s u t (fires m k _) =
    sounds _ (record { sane = sane_on s.sane u.sender≥ m; laden = load s.laden k; blocks = sized_on s.blocks t k; fitting = fitting_on u s.laden s.fitting k })

begun-sound : (st : ℕ) (e : Endpoint) → 1 ≤ st → st ≤ 2 → sound (begun st e) ≡ true
begun-sound st e a b = sounds (begun st e) (record {
  sane = omega arith;
  laden = record { waits = omega arith; places = omega arith; eight = refl; idle = λ _. (refl, refl, none_lengths) };
  blocks = sized-none;
  fitting = λ i n. none_held_lem i n;
})

begun_bounded : (st : ℕ) {e : Endpoint} → Bounded e → e.local < last_incarnation → Bounded (begun st e)
begun_bounded st v p = omega arith

-- What an accepted call leaves, of which it is known what holds where an incarnation begins and where the end goes on.
module _ (P : Endpoint → Type 0) (e : Endpoint) (s : Sound e) (begins : (st : ℕ) → 1 ≤ st → st ≤ 2 → e.local < last_incarnation → P (begun st e))
    (on : (f : Frame) (bs : List Block) (x : Step) → Small f → sized bs ≡ true → Fires e f bs x → P x.endpoint) where
  after-request : (q : Request) → sized (block_sent (ask q)) ≡ true → Allowed q e → P (accept q e).endpoint
  unfolding accept
  after-request connect t y = begins 2 (omega arith) (omega arith) y.1
  after-request listen t y = begins 1 (omega arith) (omega arith) y.1
  after-request end_listening t y = on _ _ _ small-none t (asks-on (control 0 0 0) s.sane s.laden end_listening tt y)
  after-request close t y = on _ _ _ small-none t (asks-on (control 0 0 0) s.sane s.laden close tt y)
  after-request timer t y = on _ _ _ small-none t (asks-on (control 0 0 0) s.sane s.laden timer tt y)
  after-request collect t y = on _ _ _ small-none t (asks-on (control 0 0 0) s.sane s.laden collect tt y)
  after-request (send b) t y = on _ _ _ small-none t (asks-on (control 0 0 0) s.sane s.laden (send b) tt y)

  after_call : (c : Call) → Readable c → Leaves P (perform c e)
  unfolding perform
  after_call (ask q) t = requested (Leaves P) q e (λ n. tt) (λ y. after-request q t y)
  after_call (deliver f) t = on _ _ _ (small t) sized-none (heard e f)

pub call_sound : CallSound
call_sound c e p t =
    after_call (λ (x : Endpoint). sound x ≡ true) e (sound_so e p) (λ st a b _. begun-sound st e a b) (λ _ _ _ u k f. sound_on (sound_so e p) u k f) c t

-- and of numbers of 32 bits it leaves such numbers
bounded_fires : {e : Endpoint} {f : Frame} {bs : List Block} {x : Step} → Bounded e → Sound e → Small f → Fires e f bs x → Bounded x.endpoint
bounded_fires v s u (fires m k _) = bounded_on u v s.fitting m k

pub call_bounded : CallBounded
call_bounded c e p v t = after_call Bounded e (sound_so e p) (λ st _ _ l. begun_bounded st v l) (λ _ _ _ u _ f. bounded_fires v (sound_so e p) u f) c t

-- What is kept of one end.
pub record Room (h : History) : Type 0 where
  pub bounded : Bounded (now h)
  pub blocks : sized (now h).queue ≡ true
  pub fitting : Each (Fitting (now h).delivered) (now h).held
  pub fits : (g : Frame) → Memᴰ g (sent h) → Fits g

pub no_room : Room []
unfolding now sent sized
no_room = record { bounded = omega arith; blocks = refl; fitting = λ i n. none_held_lem i n; fits = λ g m. absurd (Memᴰ.not-nil m) }

-- a call at the end a, which is sane and laden afterwards
pub room_on : {a b : History} {c : Act} {a' : History} → Laden (now a) → Room a → Room b → sized (block_accepted c) ≡ true → Sane (now a') → Laden (now a')
    → Deed a b c a' → Room a'
unfolding now sent accept
room_on i h k t s l refuses = h
room_on {a} i h k t s l (connects z p e) =
    let v = begun_bounded 2 h.bounded p in
    let new : Fits (control CRAO ((now a).local + 1) 0) = fits_on small-none s l v sized-none (crao refl) in
    record { bounded = v; blocks = sized-none; fitting = λ i n. none_held_lem i n; fits = with_new (frame (control CRAO ((now a).local + 1) 0)) new h.fits }
room_on i h k t s l (listens z p e) =
    record { bounded = begun_bounded 1 h.bounded p; blocks = sized-none; fitting = λ i n. none_held_lem i n; fits = h.fits }
room_on i h k t s l (restarts p r q u) = record { bounded = omega arith; blocks = sized-none; fitting = λ i n. none_held_lem i n; fits = h.fits }
room_on {a} {b} i h k t s l (goes {f = f} r _ (fires {o = o} m w x)) =
    let u : Small f = hears r in
    let v = bounded_on u h.bounded h.fitting m w in
    let q = sized_on h.blocks t w in
    record { bounded = v; blocks = q; fitting = fitting_on u i h.fitting w; fits = with_new o (fits_on u s l v q x) h.fits }
  where
    hears : {f : Frame} → Heard b f → Small f
    hears no_frame = small-none
    hears (from m) = small (k.fits _ m)
