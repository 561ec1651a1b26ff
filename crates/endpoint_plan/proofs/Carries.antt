-- What the plan of a call is, that it can be carried out, and what carrying it out leaves.
use Prim.Native.Nat.{ℕ, zero, suc, ◌+◌, ◌*◌, ◌≤◌, ◌<◌}
use mathlib.Core.Path.{◌≡◌, refl, sym, subst, ap, ap₂, ◌∙◌}
use mathlib.Core.Bool.{true}
use mathlib.Core.List.{List, [], ◌∷◌, ◌++◌}
use Rattle.std.specs.Prelude.{Result, Ok, Err}
use native.Mathlib.Nat.{mul-one}
use native.Mathlib.Omega.{arith}
use borrow.Author.Tests.{le-leb, leb-true}
use lib.Dec.{leb}
use lib.ListN.{length, get_or, drop, replicate}
use lib.Seq.{take_all, take_at}
use Rattle.octets.specs.Sizes.{longest_frame, longest_block, queue_size, held_size, last_number, page_size, numbers_each, last_incarnation}
use Rattle.octets.specs.Test.{when, first, Outcome, refused, ok, mapped, refusing, number_of}
use Rattle.octets.specs.Octets.{put, left, padded}
use Rattle.octets.specs.declared.refusal.Refusal.{Refusal}
use Rattle.octets.specs.Refusal.{refusal_number}
use Rattle.octets.proofs.Test.{both, joined, by_eq, eq_yes, eq_no, passing, refusing_of}
use Rattle.octets.proofs.Octets.{put-none}
use Rattle.octets.proofs.Outcomes.{refusal_some}
use Rattle.frame.specs.Frame.{Block}
use Rattle.frame.specs.Read.{cut_block}
use Rattle.frame.specs.Answer.{meant}
use Rattle.frame.specs.declared.Message.{Message}
use Rattle.frame.specs.declared.Message.TheVariants as message
use Rattle.page.specs.Page.{runs, goes_with, reserving}
use Rattle.page.specs.Page as pages
use Rattle.page.proofs.Laws.{goes_so, goes_last, stays}
use Rattle.protocol.specs.Endpoint as abstract
use Rattle.protocol.specs.Endpoint.{lengths_of}
use Rattle.protocol.specs.Table.{Step}
use Rattle.protocol.proofs.Calls.{Next, same_number}
use Rattle.protocol.proofs.Sound.{length_at}
use Rattle.call_spec.specs.declared.Call.{Call}
use Rattle.call_spec.specs.declared.Call.TheVariants as call
use Rattle.call_spec.specs.Calls.{Arguments, Rooms, given, does, own_questions, asked, wire, buffer_after, page_after, block_room_ok}
use Rattle.call_spec.specs.Answers.{notice_of, sent_in, block_of, block_part, block_buffer_after, endpoint_after}
use Rattle.step_rules.specs.Internal.{holding}
use Rattle.step_plan.specs.declared.Plan.{Plan}
use Rattle.step_plan.specs.declared.Places.{Places}
use Rattle.step_plan.specs.declared.Places.TheVariants.{Keep, Join, Release, Clear}
use Rattle.step_plan.specs.Internal.{block_by, queue_after, held_after, Room, HeldRoom, block_out, sent_by, Oldest, Comes, ComesOf, told_notice, Sends}
use Rattle.step_plan.proofs.Up.{right, told}
use Rattle.step_plan.proofs.Up as up
use Rattle.endpoint.specs.declared.Endpoint.{Endpoint}
use Rattle.endpoint.specs.View.{places_of, places_size, pack, tab, place_block, view}
use Rattle.endpoint.specs.Sound.{sound}
use Rattle.endpoint.specs.declared.Parts.{Parts}
use Rattle.endpoint.specs.Internal.{whole, numbers_of}
use Rattle.endpoint.proofs.Packs.{Long, Tidy, Small, small, count, length-tab, tab-head, small-tab, lengths-back, blocks-back, pack-view, lengths_added, blocks_added, lengths-dropped, blocks-dropped}
use Rattle.endpoint.proofs.Sounds.{by_lt, tidy, tidy-held, lengths-held, facts}
use Rattle.endpoint_places.specs.Internal.{places_after, InEight, PlanFits, lengths_after, blocks_after, carried, block_from, Handy, handed_to, HandsUp}
use Rattle.endpoint_places.proofs.HeldPlaces.{zeros-padded, held-lengths-after, held-blocks-after}
use Rattle.endpoint_plan.specs.Calls.{outcome_of}
use Rattle.endpoint_plan.specs.Internal.{rooms_ok, input_of, Plannable, PlannedBy, PlansFor, PlansFrom, Plans, PlansAny, Reserved}
use Rattle.endpoint_plan.proofs.Messages.{unread, Says, reads_as, carries_it, number_fits, accepted_short}
use Rattle.endpoint_plan.proofs.Numbers.{local-after, receive-local}
use Rattle.endpoint_plan.proofs.Ready.{Passes, all_passed, passes}

-- the parts of a record have their lengths
pub long : (p : Parts) → Long (whole p)
long p = record { lengths = p.queue.eight_lengths; blocks = p.queue.eight_blocks; held_lengths = p.held.eight_lengths; held_blocks = p.held.eight_blocks }

-- the oldest block is the one at place 0
heads : (w : ℕ) (f : ℕ → Block) → Oldest (tab w f) (f 0)
unfolding tab
heads zero f = tt
heads (suc w) f = subst (λ (q : List Block). Oldest q (f 0)) (sym (tab-head w f)) refl

pub oldest-at : (e : Endpoint) → Oldest (view e).queue (place_block e.lengths e.blocks 0)
unfolding view
oldest-at e = heads e.waiting (place_block e.lengths e.blocks)

-- and the first of the held ones
first_held : (e : Endpoint) → get_or (view e).held 0 [] ≡ place_block e.held_lengths e.held_blocks 0
unfolding view
first_held e = ap (λ (q : List Block). get_or q 0 []) (tab-head 7 (place_block e.held_lengths e.held_blocks))

-- what a plan of the record e comes to
abbrev ComesAt : Endpoint → Block → Outcome Step → Plan → Type 0
ComesAt e b o p = Comes (numbers_of e) (view e).queue (view e).held b (place_block e.lengths e.blocks 0) o p

-- where what joins or leaves stands in eight places
queue_in_eight : (k : Places) (b : Block) (w : ℕ) → w ≤ queue_size → Room k b w → InEight k
queue_in_eight Keep b w h r = tt
queue_in_eight (Join i) b w h r = omega (arith, r.0, r.1.0)
queue_in_eight (Release k) b w h r = omega (arith, r)
queue_in_eight Clear b w h r = tt

held_in_eight : (k : Places) (x : Block) (h : List Block) → HeldRoom k x h → InEight k
held_in_eight Keep x h r = tt
held_in_eight (Join i) x h r = r.0
held_in_eight (Release k) x h r = r.0
held_in_eight Clear x h r = tt

module _ (e : Endpoint) (s : sound e ≡ true) (long : Long e) where
  is-tidy : Tidy e.waiting e.lengths e.blocks
  is-tidy = tidy e s long

  is-tidy-held : Tidy held_size e.held_lengths e.held_blocks
  is-tidy-held = tidy-held e s long

  -- the record of the endpoint that it holds
  pub same : pack (view e) ≡ e
  same = pack-view e is-tidy is-tidy-held

  pub few : e.waiting ≤ queue_size
  few = is-tidy.few

  pub laden : e.waiting ≤ e.accepted
  unfolding view
  laden = rw (count e) at (facts e s long).laden.waits

  pub first_short : get_or e.lengths 0 0 ≤ longest_block
  first_short = by_lt 0 e.waiting (λ h. is-tidy.short 0 h) (λ h. omega (arith, is-tidy.unused 0 h (omega arith)))

  pub held-short-at : get_or e.held_lengths 0 0 ≤ longest_block
  held-short-at = is-tidy-held.short 0 (omega arith)

  -- a number is left for block e, where it is held
  pub number-left : 1 ≤ get_or e.held_lengths 0 0 → e.delivered < last_number
  unfolding view
  number-left h =
      let z = sym (length_at (view e).held 0) ∙ ap (λ (l : List ℕ). get_or l 0 0) (lengths-held e s long) in
      omega (arith, ((facts e s long).fitting 0 (omega (arith, z))).1)

  abbrev blocks : List Block
  blocks = (view e).queue

  abbrev helds : List Block
  helds = (view e).held

  short-queue : length blocks ≤ queue_size
  short-queue = rw (count e) few

  is-small : Small blocks
  is-small = small e is-tidy

  small-helds : Small helds
  unfolding view
  small-helds = small-tab e.held_lengths e.held_blocks held_size is-tidy-held held_size (omega arith)

  eight-helds : length helds ≡ held_size
  unfolding view
  eight-helds = length-tab held_size (place_block e.held_lengths e.held_blocks)

  lengths-are : e.lengths ≡ padded queue_size (lengths_of blocks)
  unfolding view
  lengths-are = sym (lengths-back e.lengths e.blocks e.waiting is-tidy)

  blocks_are : e.blocks ≡ padded places_size (places_of blocks)
  unfolding view
  blocks_are = sym (blocks-back e.lengths e.blocks e.waiting is-tidy)

  held-lengths-are : e.held_lengths ≡ padded held_size (lengths_of helds)
  unfolding view
  held-lengths-are = sym (lengths-back e.held_lengths e.held_blocks held_size is-tidy-held)

  held-blocks-are : e.held_blocks ≡ padded places_size (places_of helds)
  unfolding view
  held-blocks-are = sym (blocks-back e.held_lengths e.held_blocks held_size is-tidy-held)

  after-lengths : (k : Places) (b : Block) → Room k b (length blocks) → lengths_after k b e.lengths ≡ padded queue_size (lengths_of (queue_after k b blocks))
  unfolding places_after queue_after lengths_of
  after-lengths Keep b r = lengths-are
  after-lengths (Join i) b r = rw mul-one (ap₂ (λ (w : ℕ) (l : List ℕ). put l w (length b ∷ [])) r.0 lengths-are ∙ lengths_added blocks b r.1.0)
  after-lengths (Release k) b r = rw mul-one (ap (λ (l : List ℕ). drop k l ++ replicate k 0) lengths-are ∙ lengths-dropped blocks k short-queue r)
  after-lengths Clear b r = ap (λ (n : ℕ). replicate n 0) long.lengths ∙ zeros-padded queue_size

  after-blocks : (k : Places) (b : Block) → Room k b (length blocks) → blocks_after k b e.blocks ≡ padded places_size (places_of (queue_after k b blocks))
  unfolding places_after queue_after places_of
  after-blocks Keep b r = blocks_are
  after-blocks (Join i) b r = ap₂ (λ (w : ℕ) (l : List ℕ). put l (w * longest_block) b) r.0 blocks_are ∙ blocks_added blocks b is-small r.1.0 r.1.1.1
  after-blocks (Release k) b r = ap (λ (l : List ℕ). drop (k * longest_block) l ++ replicate (k * longest_block) 0) blocks_are ∙ blocks-dropped blocks k short-queue r is-small
  after-blocks Clear b r = ap (λ (n : ℕ). replicate n 0) long.blocks ∙ zeros-padded places_size

  carried-is : (p : Plan) (b : Block) → p.numbers.waiting ≡ length (queue_after p.queue b blocks) → Room p.queue b (length blocks) → HeldRoom p.held b helds
      → carried p b e ≡ pack (holding p.numbers (queue_after p.queue b blocks) (held_after p.held b helds))
  unfolding carried pack
  carried-is p b k r m =
      let n = p.numbers in
      let el = after-lengths p.queue b r in
      let eb = after-blocks p.queue b r in
      let hl = ap (lengths_after p.held b) held-lengths-are ∙ held-lengths-after helds eight-helds small-helds p.held b m in
      let hb = ap (blocks_after p.held b) held-blocks-are ∙ held-blocks-after helds eight-helds small-helds p.held b m in
      λ i. record {
        state = n.state;
        local = n.local;
        remote = n.remote;
        accepted = n.accepted;
        delivered = n.delivered;
        waiting = k i;
        lengths = el i;
        blocks = eb i;
        held_lengths = hl i;
        held_blocks = hb i;
      }

  carries : {b : Block} {o : Outcome Step} {p : Plan} → ComesAt e b o p → carried p b e ≡ pack (endpoint_after (view e) o)
  unfolding view
  carries {b} {p = p} c = carried-is p b c.counted c.room c.place ∙ ap pack c.endpoint

-- What was read from these octets, a message or a refusal.
module _ (e : Endpoint) (long : Long e) (fine : sound e ≡ true) (c : Call) (s : List ℕ) where
  -- it can be planned for
  pub plannable : (m : Result Message Refusal) → Says m c s → Plannable m (numbers_of e) e.held_lengths
  unfolding meant mapped
  plannable (Ok (message.Request q)) h = (laden e fine long, number-left e fine long)
  plannable (Ok (message.Frame g)) h = (laden e fine long, number_fits c s g h)
  plannable (Err k) h = tt

  -- and what the plan is of
  planned : (m : Result Message Refusal) → Says m c s → (r : Result Plan Refusal) → PlannedBy m (numbers_of e) e.held_lengths r
      → ComesOf (numbers_of e) (view e).queue (view e).held (cut_block s) (place_block e.lengths e.blocks 0) (does c s (view e)) r
  unfolding view
  planned m h r w =
      rw (reads_as m c s (view e) h)
      (w.comes (cut_block s) (carries_it m c s h) (view e).queue (view e).held (place_block e.lengths e.blocks 0) (count e) (oldest-at e) (lengths-held e fine long))

-- what is left of the buffer
pub sends_is : (out : List ℕ) {out' : List ℕ} {n : ℕ} (o : Outcome Step) → Sends (sent_in o) out out' n → out' ≡ buffer_after out o
unfolding sent_in buffer_after mapped left wire put
sends_is out (refused n) h = h.octets ∙ put-none out 0
sends_is out (ok x) h = h.octets

-- and of the buffer for a block
handed_is : (c : Call) (o : Outcome Step) (up : List ℕ) → handed_to c (block_of o) up ≡ block_buffer_after c up o
unfolding handed_to block_buffer_after block_of mapped left
handed_is call.Request (refused n) u = sym (put-none u 0)
handed_is call.Request (ok x) up = refl
handed_is call.Receive o up = refl

pub hands_is : (c : Call) (up : List ℕ) {up' : List ℕ} {n : ℕ} (o : Outcome Step) → HandsUp c (block_of o) up up' n → up' ≡ block_buffer_after c up o
hands_is c up o h = h.octets ∙ handed_is c o up

-- and of the page: a refusal, and a call that keeps a number which is reserved, leave it
page_is : (a : abstract.Endpoint) (page : List ℕ) (o : Outcome Step) → a.local ≤ numbers_each * pages.count page
    → reserving (endpoint_after a o).local page ≡ page_after page o
unfolding endpoint_after page_after
page_is a page (refused n) h = stays a.local page h
page_is a page (ok x) h = refl

-- the number left by a call that has passed 11, 12 and 15
next : (a : abstract.Endpoint) (o : Outcome Step) → ((x : Step) → o ≡ ok x → Next a x.endpoint) → Next a (endpoint_after a o)
unfolding endpoint_after
next a (refused n) h = same_number refl
next a (ok x) h = h x refl

heard_same : (a : abstract.Endpoint) (o : Outcome Step) → ((x : Step) → o ≡ ok x → x.endpoint.local ≡ a.local) → (endpoint_after a o).local ≡ a.local
unfolding endpoint_after
heard_same a (refused n) h = refl
heard_same a (ok x) h = h x refl

-- where the block handed up comes from is where the struct has it
from_is : (e : Endpoint) (c : Call) (b : Block) → block_from c e.held_lengths e.held_blocks b ≡ up.source c b (view e)
unfolding block_from up.source
from_is e call.Request b = sym (first_held e)
from_is e call.Receive b = refl

-- a block stands where it was handed up to, and where it was received
handed-stands : (c : Call) (b u x : Block) (n : ℕ) {from : Block} → block_by n from ≡ x → (c ≡ call.Receive → from ≡ b) → block_part c b (handed_to c x u) (length x) ≡ x
unfolding block_part handed_to put block_by
handed-stands call.Request b u x n h f = take_at x (drop (0 + length x) u) (length x) refl
handed-stands call.Receive b u x n h f =
    by_eq n 5
    (λ z. let k : x ≡ b = sym h ∙ eq_yes _ _ _ _ z ∙ f refl in rw k (take_all (length b) b (omega arith)))
    (λ z. let k : x ≡ [] = sym h ∙ eq_no _ _ _ _ z in rw k refl)

from_received : (c : Call) (l d b : Block) → c ≡ call.Receive → block_from c l d b ≡ b
unfolding block_from
from_received c l d b h = rw h refl

-- the same plan, or the same refusal, of the block that was cut
pub from_block : (c : Call) (r : Rooms) (e : Endpoint) (o : Outcome Step) (q : Result Plan Refusal) {b b' : Block} → b' ≡ b → PlansFrom c r e b o q → PlansFrom c r e b' o q
from_block c r e o q h w = subst (λ (x : Block). PlansFrom c r e x o q) (sym h) w

pub by_block : {c : Call} {r : Rooms} {e : Endpoint} {b b' : Block} {o : Outcome Step} {p : Plan} → b' ≡ b → PlansFor c r e b o p → PlansFor c r e b' o p
by_block {c} {r} {e} {o = o} {p} h w = from_block c r e o (Ok p) h w

-- A plan of a call that comes to o, with the block b.
module _ (e : Endpoint) (long : Long e) (c : Call) (r : Rooms) (b : Block) (o : Outcome Step) {p : Plan} (w : PlansFor c r e b o p) where
  rooms-are : (leb longest_frame r.frame ≡ true) × (block_room_ok c r.block ≡ true)
  rooms-are = both (leb longest_frame r.frame) (block_room_ok c r.block) w.roomy

  -- its frame can be sent
  pub sendable : (get_or e.lengths 0 0 ≤ longest_block) × ((length b ≤ longest_block) × (longest_frame ≤ r.frame))
  sendable = (first_short e w.is_sound long, (w.short, leb-true longest_frame r.frame rooms-are.0))

  -- it can be carried out
  pub ready-to : PlanFits p b
  ready-to = (
    (queue_in_eight p.queue b e.waiting (few e w.is_sound long) (rw (count e) at w.comes.room), held_in_eight p.held b _ w.comes.place),
    w.short,
  )

  -- and it leaves the record that is answered
  pub leaves : carried p b e ≡ pack (endpoint_after (view e) o)
  leaves = carries e w.is_sound long w.comes

  -- there is room for the block that is handed up
  handy-at : (k : Call) → block_room_ok k r.block ≡ true → Handy k e.held_lengths r.block
  unfolding block_room_ok
  handy-at call.Request k = (held-short-at e w.is_sound long, leb-true longest_block r.block k)
  handy-at call.Receive k = tt

  pub handy : Handy c e.held_lengths r.block
  handy = handy-at c rooms-are.1

  pub hands-up : block_by (told_notice p.notice) (block_from c e.held_lengths e.held_blocks b) ≡ block_of o
  hands-up = ap (λ (n : ℕ). block_by n (block_from c e.held_lengths e.held_blocks b)) w.comes.notice ∙ w.handed

  -- it stands where it was handed up to
  pub stands : (u : List ℕ) → block_part c b (block_buffer_after c u o) (length (block_of o)) ≡ block_of o
  stands u =
      ap (λ (l : List ℕ). block_part c b l (length (block_of o))) (sym (handed_is c o u))
      ∙ handed-stands c b u (block_of o) (notice_of o) w.handed (from_received c e.held_lengths e.held_blocks b)

  -- what is sent is what the outcome sends
  pub sends : {out out' : List ℕ} {n : ℕ} → Sends (sent_by p.reply (block_out p.queue b (place_block e.lengths e.blocks 0))) out out' n
      → Sends (sent_in o) out out' n
  sends s = rw w.comes.sent at s

-- A call of an end with a page.
module _ (e : Endpoint) (long : Long e) (page : List ℕ) (c : Arguments) where
  abbrev questions : ℕ
  questions = first (own_questions (sound e) e.local page c)

  -- a refusal by its questions before 3 is what it comes to
  pub declined : (q : Refusal) → refusal_number q ≡ questions → outcome_of e page c ≡ refused (refusal_number q)
  unfolding outcome_of asked view
  declined q h = ap (λ (n : ℕ). refusing n (does c.call c.octets (view e))) (sym h) ∙ refusing_of _ (refusal_number q) (refusal_some q)

  module _ (z : questions ≡ 0) where
    -- where they are passed, it comes to what its octets do
    goes-on : outcome_of e page c ≡ does c.call c.octets (view e)
    unfolding outcome_of asked refusing view
    goes-on = rw z refl

    passed : Passes (sound e) e.local page c
    passed = all_passed (sound e) e.local page c z

    pub unread-is : {n : ℕ} → refused n ≡ input_of c.call c.octets → outcome_of e page c ≡ refused n
    unread-is h = goes-on ∙ unread c.call c.octets (view e) h

    -- what was read can be planned for
    pub can-plan : (m : Result Message Refusal) → Says m c.call c.octets → Plannable m (numbers_of e) e.held_lengths
    can-plan m h = plannable e long passed.is_fine c.call c.octets m h

    -- and its plan is that of the call
    pub plans : (m : Result Message Refusal) → Says m c.call c.octets → (r : Result Plan Refusal) → PlannedBy m (numbers_of e) e.held_lengths r → Plans e page c r
    unfolding outcome_of view
    plans m h (Ok p) w =
        let k = rw (sym goes-on) at (planned e long passed.is_fine c.call c.octets m h (Ok p) w) in
        record {
          comes = k;
          handed = ap (block_by (notice_of (outcome_of e page c))) (from_is e c.call (cut_block c.octets)) ∙ told (right (sound e) page (view e) c);
          roomy = joined (le-leb longest_frame c.room passed.frame_room) passed.block_room;
          is_sound = passed.is_fine;
          short = accepted_short c.call c.octets (view e) (ap number_of (sym goes-on) ∙ k.accepted);
        }
    plans m h (Err q) w = goes-on ∙ planned e long passed.is_fine c.call c.octets m h (Err q) w

-- where 11, 12 and 15 are passed, it is the same for every page and all rooms
module _ (e : Endpoint) (fine : sound e ≡ true) (c : Call) (s page : List ℕ) (r : Rooms) (k : rooms_ok c r ≡ true) (l : page_size ≤ length page) (g : goes_with e.local page ≡ true) where
  all-yes : first (own_questions (sound e) e.local page (given c s r)) ≡ 0
  unfolding first when
  all-yes = let room = both (leb longest_frame r.frame) (block_room_ok c r.block) k in rw (room.0, room.1, le-leb page_size (length page) l, fine, g) refl

pub unread_any : (e : Endpoint) → Long e → sound e ≡ true → (c : Call) (s : List ℕ) (q : Refusal) → refused (refusal_number q) ≡ input_of c s → PlansAny e c s (Err q)
unread_any e long fine c s q h page r k l g = unread-is e long page (given c s r) (all-yes e fine c s page r k l g) h

pub plans_any : (e : Endpoint) → Long e → sound e ≡ true → (c : Call) (s : List ℕ) (m : Result Message Refusal) → Says m c s → (r : Result Plan Refusal)
    → PlannedBy m (numbers_of e) e.held_lengths r → PlansAny e c s r
unfolding mapped
plans_any e long fine c s (Ok m) h p w page r k l g = plans e long page (given c s r) (all-yes e fine c s page r k l g) (Ok m) h p w
plans_any e long fine c s (Err q) h p w page r k l g = rw (w.refuses q refl) (unread_any e long fine c s q h page r k l g)

-- what the page's store asks of an accepted plan
abbrev pub Reservable : List ℕ → Plan → Type 0
Reservable page p =
    ((page_size ≤ length page) × (runs page ≡ true))
    × ((p.numbers.local ≤ last_incarnation) × (p.numbers.local ≤ numbers_each * pages.count page + numbers_each))

module _ (e : Endpoint) (page : List ℕ) (c : Arguments) {p : Plan} (w : Plans e page c (Ok p)) where
  abbrev o : Outcome Step
  o = outcome_of e page c

  -- the buffers have room, the record is sound, the page goes with it
  accepted : Passes (sound e) e.local page c
  unfolding outcome_of view
  accepted = passes (sound e) page (view e) c w.comes.accepted

  -- the number that it leaves can be reserved
  local_is : p.numbers.local ≡ (endpoint_after (view e) o).local
  unfolding view
  local_is = ap (λ (a : abstract.Endpoint). a.local) w.comes.endpoint

  local-next : Next (view e) (endpoint_after (view e) o)
  unfolding outcome_of asked view
  local-next =
      next (view e) o (λ x h. local-after (view e) c.call c.octets (passing (first (own_questions (sound e) e.local page c)) h).1)

  pub reservable : Reservable page p
  unfolding view
  reservable =
      let g = goes_so e.local page accepted.goes in
      let l = local-next in
      let n = l.left (goes_last e.local page accepted.page_long accepted.goes) in
      ((accepted.page_long, g.0), (omega (arith, local_is, n), omega (arith, local_is, l.most)))

  -- and reserving it is what the call leaves of the page
  pub reserves : {page' : List ℕ} → page' ≡ reserving p.numbers.local page → page' ≡ page_after page o
  unfolding view
  reserves h =
      let g = goes_so e.local page accepted.goes in
      h ∙ ap (λ (n : ℕ). reserving n page) local_is ∙ page_is (view e) page o (omega arith)

  -- receiving begins no number, and the one at hand is reserved
  pub received-reserved : c.call ≡ call.Receive → Reserved (Ok p) page
  unfolding outcome_of asked view
  received-reserved h =
      let g = goes_so e.local page accepted.goes in
      omega (arith, local_is, heard_same (view e) o (λ x k. receive-local (view e) c.octets (rw h at (passing (first (own_questions (sound e) e.local page c)) k).1)))
