-- What a call on a lent record answers, from its plan.
use Prim.Native.Nat.{ℕ, ◌≤◌, ◌<◌}
use mathlib.Core.Path.{◌≡◌, refl, sym, subst, ap, ap₂, ◌∙◌}
use Rattle.std.specs.Prelude.{Result, Ok, Err, IfOk, MatchResult}
use mathlib.Core.List.{List}
use native.Mathlib.Omega.{arith}
use borrow.Author.Tests.{le-leb, lt-leb}
use lib.ListN.{length}
use Rattle.octets.specs.Sizes.{longest_block}
use Rattle.octets.specs.Test.{when, first, Outcome, refused, ok, refusing, mapped, number_of}
use Rattle.octets.specs.Octets.{put, left, Octets}
use Rattle.octets.specs.declared.refusal.Refusal.{Refusal}
use Rattle.page.specs.Page.{reserving}
use Rattle.octets.proofs.Outcomes.{after-question}
use Rattle.frame.specs.Frame.{Block}
use Rattle.frame.specs.Read.{kind_of, after_head, cut_block, frame_at, read_frame}
use Rattle.protocol.specs.Endpoint as abstract
use Rattle.protocol.specs.Table.{Step}
use Rattle.call_spec.specs.declared.Call.{Call}
use Rattle.call_spec.specs.declared.Call.TheVariants.{Request, Receive}
use Rattle.call_spec.specs.Calls.{Arguments, Rooms, given, wire, own_questions, asked, performed, record_after, buffer_after, page_after}
use Rattle.step_plan.specs.declared.Plan.{Plan}
use Rattle.call_spec.specs.Answers.{notice_of, sent_in, block_of, block_part, block_buffer_after, endpoint_after}
use Rattle.step_plan.specs.Internal.{told_notice, block_by, block_out, sent_by, Sends}
use Rattle.step_plan.proofs.Up.{Right, source, right, none_right}
use Rattle.step_plan.proofs.Up as up
use Rattle.endpoint.specs.declared.Endpoint.{Endpoint}
use Rattle.endpoint.specs.View.{place_block, pack, view}
use Rattle.endpoint.specs.Record.{record_size, encode, decode}
use Rattle.endpoint.specs.Sound.{sound}
use Rattle.endpoint.proofs.Sounds.{by_lt}
use Rattle.endpoint_places.specs.Internal.{carried, block_from, HandsUp}
use Rattle.endpoint_plan.specs.Calls.{outcome_of}
use Rattle.endpoint_plan.specs.Internal.{PlansFor, Plans, Reserved}
use Rattle.endpoint_plan.proofs.Messages.{accepted_frame}
use Rattle.endpoint_plan.proofs.Ready.{accepted_by}
use Rattle.endpoint_plan.proofs.Short.{five, up-short}
use Rattle.endpoint_plan.proofs.Carries.{Reservable, same, leaves, hands-up, stands, hands_is, sends, sends_is, reservable, reserves, received-reserved}
use Rattle.lent_record.specs.declared.Answer.{Answer}
use Rattle.lent_record.specs.Record.{format}
use Rattle.lent_record.specs.Told.{told_of, status_of, sent_of, answer_of}
use Rattle.lent_record.proofs.Told.{rewritten, decode_long}
use Rattle.link.specs.Internal.{PlansLent}
use Rattle.link.specs.Lent.{Called}

-- the numbers of an endpoint that are told
record SameNumbers (a : abstract.Endpoint) (e : Endpoint) : Type 0 where
  state : a.state ≡ e.state
  local : a.local ≡ e.local
  remote : a.remote ≡ e.remote

sent_is : (o : Outcome Step) → length (wire (sent_in o)) ≡ sent_of o
unfolding sent_in wire sent_of
sent_is (refused n) = refl
sent_is (ok x) = refl

-- a refusal leaves all, and tells how the record stands
pub turned_down : {o : Outcome Step} {n : ℕ} → o ≡ refused n → (c : Call) (rec s out up : List ℕ) {r : Answer} → r ≡ answer_of rec (refused n) → Called c o rec s out up rec out up r
unfolding answer_of block_of block_part record_after buffer_after block_buffer_after mapped left
turned_down e Request rec s out up h = rw (e, h) (record { answer = refl; end = refl; buffer = refl; block_buffer = refl; block = refl })
turned_down e Receive rec s out up h = rw (e, h) (record { answer = refl; end = refl; buffer = refl; block_buffer = refl; block = refl })

pub page_unchanged : {o : Outcome Step} {n : ℕ} → o ≡ refused n → {page : List ℕ} → page ≡ page_after page o
unfolding page_after
page_unchanged e = rw e refl

-- the block handed up is as long as the answer tells
pub part_long : {k : Call} {o : Outcome Step} {rec s out up rec' out' up' : List ℕ} {a : Answer} → Called k o rec s out up rec' out' up' a
    → length (block_part k s up' a.block) ≡ a.block
unfolding answer_of
part_long {a = a} c = ap length c.block ∙ sym (ap (λ (x : Answer). x.block) c.answer)

-- receiving leaves the buffer for a block
pub received_same : {o : Outcome Step} {rec s out up rec' out' up' : List ℕ} {a : Answer} → Called Receive o rec s out up rec' out' up' a
    → Called Receive o rec s out up rec' out' up a
unfolding block_part block_buffer_after
received_same c = record { answer = c.answer; end = c.end; buffer = c.buffer; block_buffer = refl; block = c.block }

pub too_short : (rec page : List ℕ) (c : Arguments) → length rec < record_size → performed format rec page c ≡ refused 11
unfolding performed refusing first when
too_short rec page c h = rw (lt-leb record_size (length rec) h) refl

module _ (rec : List ℕ) (long : record_size ≤ length rec) where
  pub enough : (page : List ℕ) (c : Arguments) → performed format rec page c ≡ outcome_of (decode rec) page c
  unfolding performed outcome_of refusing first when
  enough page c = rw (le-leb record_size (length rec) long) refl

  told : (o : Outcome Step) → SameNumbers (endpoint_after (view (decode rec)) o) (told_of rec o)
  unfolding endpoint_after told_of view pack when
  told (refused n) = rw (le-leb record_size (length rec) long) (record { state = refl; local = refl; remote = refl })
  told (ok x) = record { state = refl; local = refl; remote = refl }

  stored : Octets rec → pack (view (decode rec)) ≡ decode rec → (o : Outcome Step) → put rec 0 (encode (pack (endpoint_after (view (decode rec)) o))) ≡ record_after format rec o
  unfolding endpoint_after record_after mapped left
  stored oc h (refused n) = ap (λ (x : Endpoint). put rec 0 (encode x)) h ∙ rewritten rec long oc
  stored oc h (ok x) = refl

  -- what a plan's store leaves of the page
  pub reserved : (page : List ℕ) (c : Arguments) {p : Plan} → Plans (decode rec) page c (Ok p) → {page' : List ℕ} → page' ≡ reserving p.numbers.local page
      → page' ≡ page_after page (performed format rec page c)
  reserved page c {p} w h = rw (enough page c) (reserves (decode rec) page c w h)

  -- the plan of a call that comes to o, with the block b, is carried out
  pub accepts : Octets rec → (c : Call) (r : Rooms) (b : Block) (o : Outcome Step) {p : Plan} → PlansFor c r (decode rec) b o p → {out out' : List ℕ} {n : ℕ}
      → Sends (sent_by p.reply (block_out p.queue b (place_block (decode rec).lengths (decode rec).blocks 0))) out out' n
      → {u u' : List ℕ} {m : ℕ} → HandsUp c (block_by (told_notice p.notice) (block_from c (decode rec).held_lengths (decode rec).held_blocks b)) u u' m
      → {rec' : List ℕ} → rec' ≡ put rec 0 (encode (carried p b (decode rec))) → {i : ℕ} → i ≡ told_notice p.notice
      → Called c o rec b out u rec' out' u'
      (record { status = record { number = 0; state = p.numbers.state; notice = i; local = p.numbers.local; remote = p.numbers.remote }; sent = n; block = m })
  unfolding answer_of status_of view
  accepts oc c r b o {p} w {out} s {u} h {rec'} er ei =
      let d = decode rec in
      let l = decode_long rec long in
      let k = w.comes.endpoint in
      let t = sends d l c r b o w s in
      let g = rw (hands-up d l c r b o w) at h in
      let st : p.numbers.state ≡ (told_of rec o).state = ap (λ (x : abstract.Endpoint). x.state) k ∙ (told o).state in
      let lo : p.numbers.local ≡ (told_of rec o).local = ap (λ (x : abstract.Endpoint). x.local) k ∙ (told o).local in
      let re : p.numbers.remote ≡ (told_of rec o).remote = ap (λ (x : abstract.Endpoint). x.remote) k ∙ (told o).remote in
      let nu : 0 ≡ number_of o = sym w.comes.accepted in
      let no = ei ∙ w.comes.notice in
      let eu = hands_is c u o g in
      record {
        answer = λ i. record { status = record { number = nu i; state = st i; notice = no i; local = lo i; remote = re i }; sent = (t.count ∙ sent_is o) i; block = g.count i };
        end = er ∙ ap (λ (x : Endpoint). put rec 0 (encode x)) (leaves d l c r b o w) ∙ stored oc (same d w.is_sound l) o;
        buffer = sends_is out o t;
        block_buffer = eu;
        block = ap₂ (λ (x : List ℕ) (j : ℕ). block_part c b x j) eu g.count ∙ stands d l c r b o w u;
      }

-- the plan of a lent call is that of the call of its struct
pub plans_lent : (rec : List ℕ) → record_size ≤ length rec → (page s : List ℕ) (c : Call) (r : Rooms) (q : Result Plan Refusal) → Plans (decode rec) page (given c s r) q → PlansLent c rec page s r q
plans_lent rec long page s c r (Ok p) w = (long, subst (λ (o : Outcome Step). PlansFor c r (decode rec) (cut_block s) o p) (sym (enough rec long page (given c s r))) w)
plans_lent rec long page s c r (Err k) w = (tt, enough rec long page (given c s r) ∙ w)

pub planned : (rec page s : List ℕ) (c : Call) (r : Rooms) {p : Plan} → PlansLent c rec page s r (Ok p) → Plans (decode rec) page (given c s r) (Ok p)
planned rec page s c r {p} w = subst (λ (o : Outcome Step). PlansFor c r (decode rec) (cut_block s) o p) (enough rec w.0 page (given c s r)) w.1

-- A plan of a lent call, or a refusal, which asks nothing of the page and leaves it.
module _ (rec page s : List ℕ) (c : Call) (r : Rooms) where
  pub can-reserve : (q : Result Plan Refusal) → PlansLent c rec page s r q → IfOk q (Reservable page)
  can-reserve (Ok p) w = reservable (decode rec) page (given c s r) (planned rec page s c r w)
  can-reserve (Err k) w = tt

  pub reserved-by : (q : Result Plan Refusal) → PlansLent c rec page s r q → {page' : List ℕ}
      → MatchResult q (λ (p : Plan). page' ≡ reserving p.numbers.local page) (λ (k : Refusal). page' ≡ page)
      → page' ≡ page_after page (performed format rec page (given c s r))
  reserved-by (Ok p) w h = reserved rec w.0 page (given c s r) (planned rec page s c r w) h
  reserved-by (Err k) w h = h ∙ page_unchanged w.1

pub received-by : (rec page s : List ℕ) (r : Rooms) (q : Result Plan Refusal) → PlansLent Receive rec page s r q → Reserved q page
received-by rec page s r (Ok p) w = received-reserved (decode rec) page (given Receive s r) (planned rec page s Receive r w) refl
received-by rec page s r (Err k) w = omega arith

-- what a call of a record that is long enough comes to is what the call of its struct does
pub at_record : (rec : List ℕ) → record_size ≤ length rec → (page : List ℕ) (c : Arguments) {b : Block} {out up rec' out' up' : List ℕ} {a : Answer}
    → Called c.call (outcome_of (decode rec) page c) rec b out up rec' out' up' a → Called c.call (performed format rec page c) rec b out up rec' out' up' a
at_record rec long page c {b} {out} {up} {rec'} {out'} {up'} {a} h =
    subst (λ (o : Outcome Step). Called c.call o rec b out up rec' out' up' a) (sym (enough rec long page c)) h

-- with the block that was cut
pub of_block : {k : Call} {o : Outcome Step} {rec : List ℕ} {b b' : Block} {out up rec' out' up' : List ℕ} {a : Answer} → b ≡ b'
    → Called k o rec b out up rec' out' up' a → Called k o rec b' out up rec' out' up' a
of_block {k} {o} {rec} {out = out} {up} {rec'} {out'} {up'} {a} e c = subst (λ (x : Block). Called k o rec x out up rec' out' up' a) e c

pub called_by : (rec : List ℕ) → record_size ≤ length rec → (page : List ℕ) (c : Arguments) {b : Block} {out up rec' out' up' : List ℕ} {a : Answer} → b ≡ cut_block c.octets
    → Called c.call (outcome_of (decode rec) page c) rec b out up rec' out' up' a → Called c.call (performed format rec page c) rec (cut_block c.octets) out up rec' out' up' a
called_by rec long page c e h = of_block e (at_record rec long page c h)

-- The block that is handed up is told by the notice.
shown : (rec page : List ℕ) (c : Arguments)
    → Right (source c.call (cut_block c.octets) (format.holds rec)) (block_of (performed format rec page c)) (notice_of (performed format rec page c))
unfolding performed
shown rec page c =
    after-question (λ (o : Outcome Step). Right (source c.call (cut_block c.octets) (format.holds rec)) (block_of o) (notice_of o)) (none_right _) _ _
    (right (format.sound rec) page (format.holds rec) c)

module _ (rec page s : List ℕ) (r : Rooms) where
  abbrev received : Outcome Step
  received = performed format rec page (given Receive s r)

  pub hands-it-up : block_by (notice_of received) (cut_block s) ≡ block_of received
  unfolding source
  hands-it-up = up.told (shown rec page (given Receive s r))

-- a frame whose block is handed up was read
pub hears_frame : (rec page s : List ℕ) (r : Rooms) → notice_of (performed format rec page (given Receive s r)) ≡ 5 → read_frame s ≡ ok (frame_at (kind_of s) (after_head s))
unfolding outcome_of asked view notice_of
hears_frame rec page s r h =
    let c = given Receive s r in
    by_lt (length rec) record_size (λ k. absurd (omega (arith, sym h ∙ ap notice_of (too_short rec page c k))))
    (λ l.
    let z = five (outcome_of (decode rec) page c) (sym (ap notice_of (enough rec l page c)) ∙ h) in
    accepted_frame s (view (decode rec)) (accepted_by (first (own_questions (sound (decode rec)) (decode rec).local page c)) _ z).1)

-- a block handed up has at most 64 octets
pub block_short : (rec page : List ℕ) (c : Arguments) → length (block_of (performed format rec page c)) ≤ longest_block
unfolding block_of
block_short rec page c =
    by_lt (length rec) record_size (λ s. rw (too_short rec page c s) (omega arith))
    (λ l. rw (enough rec l page c) (up-short (decode rec) (decode_long rec l) page c))
