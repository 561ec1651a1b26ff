-- Every delivery leaves its end, or sends, or brings it down; and how high an end can stand.
use Prim.Native.Nat.{ℕ, ◌+◌, ◌-◌, ◌≤◌, ◌<◌}
use mathlib.Core.Path.{◌≡◌}
use mathlib.Core.Logic.{◌≢◌}
use mathlib.Core.Bool.{true}
use native.Mathlib.Omega.{arith}
use lib.Dec.{T, leb}
use lib.ListN.{length-drop}
use Rattle.octets.specs.Sizes.{queue_size}
use Rattle.octets.specs.Test.{when, if_eq, if_lt}
use Rattle.octets.proofs.Test.{if-eq, if-lt}
use Rattle.frame.specs.Frame.{Block, CRAO, DRACK, Frame, control, ack_frame}
use Rattle.protocol.specs.declared.Rule.{Rule}
use Rattle.protocol.specs.Endpoint.{Endpoint, waiting, sound}
use Rattle.protocol.specs.Table.{when_closed, when_listening, when_active, when_passive, data_row, ack_row, open_rows, when_established, when_closing, rule}
use Rattle.protocol.specs.Table.{Sent, nothing, frame, turned, delivering, holding_early, releasing, apply, step}
use Rattle.protocol.specs.Rank.{rank, lift, Descends, stays, sends, falls, EachDescends}
use Rattle.protocol.proofs.Sound.{sound_so}

-- what is chosen by the state of an end
by_state : (P : ℕ → Type 0) (st : ℕ) {v w x y z : ℕ} → (st ≡ 0 → P v) → (st ≡ 1 → P w) → (st ≡ 5 → P x) → (st ≡ 4 → P y)
    → (st ≢ 0 → st ≢ 1 → st ≢ 5 → st ≢ 4 → P z) → P (if_eq st 0 v (if_eq st 1 w (if_eq st 5 x (if_eq st 4 y z))))
by_state P st a b c d f = if-eq P st 0 a (λ k. if-eq P st 1 b (λ l. if-eq P st 5 c (λ m. if-eq P st 4 d (λ n. f k l m n))))

-- an open end has at most eight blocks waiting
pub at_most : (e : Endpoint) → sound e ≡ true → rank e ≤ 1 + queue_size
unfolding rank
at_most e h =
    let w = (sound_so e h).laden.places in
    by_state (λ n. n ≤ 1 + queue_size) e.state (λ _. omega arith) (λ _. omega arith) (λ _. omega arith) (λ _. omega arith) (λ _ _ _ _. omega arith)

module _ (e : Endpoint) where
  -- the ways down: to closed, to listening, to open, and by blocks that leave
  to-closed : 2 ≤ e.state → rank (turned 0 0 e) < rank e
  unfolding rank if_eq when
  to-closed h =
      by_state (λ n. rank (turned 0 0 e) < n) e.state (λ z. absurd (omega arith)) (λ z. absurd (omega arith)) (λ _. omega arith) (λ _. omega arith)
      (λ _ _ _ _. omega arith)

  opening-above : (x : Endpoint) → rank x < 2 → 2 ≤ e.state → e.state ≤ 3 → rank x < rank e
  unfolding rank
  opening-above x r h k =
      by_state (λ n. rank x < n) e.state (λ z. absurd (omega arith)) (λ z. absurd (omega arith)) (λ z. absurd (omega arith)) (λ z. absurd (omega arith))
      (λ _ _ _ _. omega arith)

  to-listening : e.state ≡ 3 → rank (turned 1 0 e) < rank e
  unfolding rank if_eq when
  to-listening h = opening-above (turned 1 0 e) (omega arith) (omega arith) (omega arith)

  to-open : (d : ℕ) → 2 ≤ e.state → e.state ≤ 3 → rank (turned 4 d e) < rank e
  unfolding rank if_eq when
  to-open d h k = opening-above (turned 4 d e) (omega arith) h k

  fewer : (n : ℕ) → e.state ≡ 4 → e.accepted - waiting e < n → n ≤ e.accepted → rank (releasing n e) < rank e
  unfolding rank if_eq when
  fewer n h a b = rw h (omega (arith, length-drop (n - (e.accepted - waiting e)) e.queue))

  -- where a frame is sent: the end as it is, or with a block more, or begun anew
  as-it-is : rank e ≤ rank e + lift
  as-it-is = omega arith

  with-one-up : rank (delivering e) ≤ rank e + lift
  unfolding rank
  with-one-up = omega arith

  with-one-held : (n : ℕ) (b : Block) → rank (holding_early n b e) ≤ rank e + lift
  unfolding rank
  with-one-held n b = omega arith

  anew : (st d : ℕ) → rank (turned st d e) ≤ rank e + lift
  unfolding rank
  anew st d =
      by_state (λ n. n ≤ rank e + lift) st (λ _. omega arith) (λ _. omega arith) (λ _. omega arith) (λ _. omega arith) (λ _ _ _ _. omega arith)

-- what a delivery sends: a frame without a block
pub data Plain : Sent → Type 0 where
  no_frame : Plain nothing
  of_control : {k s r : ℕ} → T (leb CRAO k) → T (leb k DRACK) → Plain (frame (control k s r))
  of_ack : {s r n : ℕ} → Plain (frame (ack_frame s r n))

-- what a row of the table does
data Does (e : Endpoint) (f : Frame) : Rule → Type 0 where
  does : {r : Rule} → Descends e (apply r e f) → Plain (apply r e f).sent → Does e f r

eq-does : {e : Endpoint} {f : Frame} (a b : ℕ) {x y : Rule} → (a ≡ b → Does e f x) → (a ≢ b → Does e f y) → Does e f (if_eq a b x y)
eq-does {e} {f} = if-eq (Does e f)

lt-does : {e : Endpoint} {f : Frame} (a b : ℕ) {x y : Rule} → (a < b → Does e f x) → (b ≤ a → Does e f y) → Does e f (if_lt a b x y)
lt-does {e} {f} = if-lt (Does e f)

ruleset down = (falls, to-closed, to-listening, to-open, fewer)

ruleset sending = (sends, as-it-is, with-one-up, with-one-held, anew, of_control, of_ack)

ruleset row = (eq-does, lt-does, does, stays, no_frame, down, sending)

module _ (e : Endpoint) (f : Frame) where
  on-closed : Does e f (when_closed e f)
  unfolding when_closed apply
  on-closed = search row depth 20

  on-listening : Does e f (when_listening e f)
  unfolding when_listening apply
  on-listening = search row depth 20

  on-active : e.state ≡ 2 → Does e f (when_active e f)
  unfolding when_active apply
  on-active h =
      let least : 2 ≤ e.state = omega arith in
      let most : e.state ≤ 3 = omega arith in
      search row depth 20

  on-passive : e.state ≡ 3 → Does e f (when_passive e f)
  unfolding when_passive apply
  on-passive h =
      let least : 2 ≤ e.state = omega arith in
      let most : e.state ≤ 3 = omega arith in
      search row depth 20

  on-established : e.state ≡ 4 → Does e f (when_established e f)
  unfolding when_established open_rows data_row ack_row apply
  on-established h =
      let least : 2 ≤ e.state = omega arith in
      search row depth 20

  on-closing : e.state ≡ 5 → Does e f (when_closing e f)
  unfolding when_closing apply
  on-closing h =
      let least : 2 ≤ e.state = omega arith in
      search row depth 20

  any-row : Does e f (rule e f)
  unfolding rule apply
  any-row = search (eq-does, lt-does, does, stays, no_frame, on-closed, on-listening, on-active, on-passive, on-established, on-closing) depth 20

-- so does every delivery
descent : {e : Endpoint} {f : Frame} {r : Rule} → Does e f r → Descends e (apply r e f)
descent (does d p) = d

sent_by_lem : {e : Endpoint} {f : Frame} {r : Rule} → Does e f r → Plain (apply r e f).sent
sent_by_lem (does d p) = p

pub descends : EachDescends
unfolding step
descends e f = descent (any-row e f)

pub plain : (e : Endpoint) (f : Frame) → Plain (step e f).sent
unfolding step
plain e f = sent_by_lem (any-row e f)
