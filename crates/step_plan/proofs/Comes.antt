-- What the plans that many rows share come to.
use Prim.Native.Nat.{ℕ, zero, suc, ◌+◌, ◌-◌, ◌≤◌, ◌<◌}
use mathlib.Core.Path.{◌≡◌, refl, sym, ap, ◌∙◌}
use mathlib.Core.Logic.{◌≢◌}
use mathlib.Core.Bool.{true, false, false≢true}
use mathlib.Core.List.{List, [], ◌∷◌, ◌++◌}
use native.Mathlib.Omega.{arith}
use borrow.Author.Tests.{eqb-true}
use lib.Dec.{eqb}
use lib.ListN.{length, drop, get_or, replicate, length-append, length-drop, drop_of_length-le, get_or-eq_default}
use Rattle.octets.specs.Test.{when, if_eq, zeros, Outcome, ok, number_of}
use Rattle.octets.specs.Sizes.{longest_block, queue_size, held_size}
use Rattle.octets.proofs.Test.{both, split, if-eq}
use Rattle.octets.proofs.Each.{zeros_of}
use Rattle.std.specs.Prelude.{Option, Some}
use Rattle.frame.specs.Frame.{Block, data_frame}
use Rattle.frame.specs.declared.Kind.TheVariants.{Ack}
use Rattle.frame.specs.declared.Header.{Header}
use Rattle.frame.specs.Answer.{header_of}
use Rattle.protocol.specs.Endpoint.{Endpoint, none_held, lengths_of}
use Rattle.protocol.specs.Table.{none, connected, rejected, closed_by_partner, close_finished, handed_up, Step, quiet, says, turned, moved_down, delivering, held_at}
use Rattle.protocol.specs.Table as table
use Rattle.protocol.specs.Requests.{begun}
use Rattle.protocol.proofs.Facts.{get_d_moved, none-at}
use Rattle.protocol.proofs.Sound.{length_at, lengths_length}
use Rattle.step_rules.specs.declared.Numbers.{Numbers}
use Rattle.step_rules.specs.Internal.{holding}
use Rattle.step_plan.specs.declared.Notice.{Notice}
use Rattle.step_plan.specs.declared.Notice.TheVariants.{Nothing, Connected, Rejected, ClosedByPartner, CloseFinished, HandedUp}
use Rattle.step_plan.specs.declared.Plan.{Plan}
use Rattle.step_plan.specs.declared.Places.{Places}
use Rattle.step_plan.specs.declared.Places.TheVariants.{Join}
use Rattle.call_spec.specs.Answers.{notice_of, sent_in, endpoint_after}
use Rattle.step_plan.specs.Internal.{told_notice, queue_after, held_after, Room, HeldRoom, block_out, sent_by, Comes}
use Rattle.step_plan.specs.Internal.{keeping, leaving, clearing, emptying, delivering_numbers, handing, turning, beginning, joining, holding_plan, releasing_plan}

-- the notice of a plan, by that of the protocol
abbrev pub noticed : table.Notice → Notice
noticed none = Nothing
noticed connected = Connected
noticed rejected = Rejected
noticed closed_by_partner = ClosedByPartner
noticed close_finished = CloseFinished
noticed (handed_up b) = HandedUp

numbered : (i : table.Notice) → told_notice (noticed i) ≡ table.notice_number i
unfolding table.notice_number
numbered none = refl
numbered connected = refl
numbered rejected = refl
numbered closed_by_partner = refl
numbered close_finished = refl
numbered (handed_up b) = refl

-- an accepted call
abbrev pub answers : Endpoint → table.Notice → Option Header → Block → Outcome Step
answers e i r old = ok (record { endpoint = e; notice = i; sent = sent_by r old })

none_left : (n : Numbers) (q : List Block) → length q ≡ n.waiting → drop n.waiting q ≡ []
none_left n q w = drop_of_length-le q {i = n.waiting} (omega arith)

-- Places without a block in any, and those that are left where some leave.
pub no_block : (b : Block) → length b ≡ 0 → b ≡ []
no_block [] h = refl
no_block (x ∷ b) h = absurd (omega arith)

none_in : (h : List Block) → zeros (lengths_of h) ≡ true → h ≡ replicate (length h) []
unfolding zeros lengths_of
none_in [] z = refl
none_in (b ∷ h) z =
    let y = both (eqb (length b) 0) (zeros (lengths_of h)) z in
    rw (no_block b (eqb-true (length b) 0 y.0)) (ap (λ (l : List Block). [] ∷ l) (none_in h y.1))

module _ (z : List ℕ) (h : List Block) (lz : lengths_of h ≡ z) (l8 : length z ≡ held_size) where
  eight : length h ≡ held_size
  eight = sym (lengths_length h) ∙ ap length lz ∙ l8

  -- k of them leave, as far as any is held
  left_by : (k : ℕ) (x : Block) → drop k none_held ++ replicate k [] ≡ none_held → held_after (leaving z k) x h ≡ drop k h ++ replicate k []
  unfolding leaving held_after
  left_by k x e =
      split (λ (p : Places). held_after p x h ≡ drop k h ++ replicate k []) (zeros z)
      (λ t. let n : h ≡ none_held = none_in h (ap zeros lz ∙ t) ∙ ap (λ (m : ℕ). replicate m []) eight in rw n (sym e))
      (λ _. refl)

  pub moved_by : (x : Block) → held_after (leaving z 1) x h ≡ moved_down h
  unfolding moved_down
  moved_by x = left_by 1 x refl

  -- all are written afresh, as far as any is held
  pub cleared_by : (x : Block) → held_after (clearing z) x h ≡ none_held
  unfolding clearing held_after
  cleared_by x =
      split (λ (p : Places). held_after p x h ≡ none_held) (zeros z) (λ t. none_in h (ap zeros lz ∙ t) ∙ ap (λ (m : ℕ). replicate m []) eight) (λ _. refl)

  -- what moves down and stays as it was, or leaves and was not there, is nothing
  none-moved : drop 1 h ++ replicate 1 [] ≡ h → (i j : ℕ) → held_size ≤ i + j → get_or h i [] ≡ []
  unfolding moved_down
  none-moved e i zero l = get_or-eq_default h [] {n = i} (omega (arith, eight))
  none-moved e i (suc j) l = ap (λ (q : List Block). get_or q i []) (sym e) ∙ get_d_moved h i ∙ none-moved e (1 + i) j (omega arith)

  none_held_lem : ((i : ℕ) → get_or h i [] ≡ []) → zeros z ≡ true
  none_held_lem f = ap zeros (sym lz) ∙ zeros_of (lengths_of h) (λ i _. length_at h i ∙ ap length (f i))

  still-held : zeros z ≡ false → drop 1 h ++ replicate 1 [] ≢ h
  still-held n e = false≢true (sym n ∙ none_held_lem (λ i. none-moved e i held_size (omega arith)))

  cleared-held : zeros z ≡ false → none_held ≢ h
  cleared-held n e = false≢true (sym n ∙ none_held_lem (λ i. ap (λ (l : List Block). get_or l i []) (sym e) ∙ none-at i))

  room_by : (k : ℕ) (x : Block) → k ≤ held_size → (zeros z ≡ false → drop k h ++ replicate k [] ≢ h) → HeldRoom (leaving z k) x h
  unfolding leaving
  room_by k x e g = split (λ (p : Places). HeldRoom p x h) (zeros z) (λ _. tt) (λ n. (e, g n))

  pub room_moved : (x : Block) → HeldRoom (leaving z 1) x h
  room_moved x = room_by 1 x (omega arith) still-held

  pub room-cleared : (x : Block) → HeldRoom (clearing z) x h
  unfolding clearing
  room-cleared x = split (λ (p : Places). HeldRoom p x h) (zeros z) (λ _. tt) cleared-held

-- so are the places of the waiting blocks
module _ (n : Numbers) (q : List Block) (b old : Block) (w : length q ≡ n.waiting) where
  emptied : queue_after (emptying n.waiting) b q ≡ []
  unfolding emptying queue_after
  emptied =
      if-eq (λ (p : Places). queue_after p b q ≡ []) n.waiting 0 (λ e. ap (λ (k : ℕ). drop k q) (sym e) ∙ none_left n q w) (λ _. refl)

  room-emptied : Room (emptying n.waiting) b (length q)
  unfolding emptying
  room-emptied = if-eq (λ (p : Places). Room p b (length q)) n.waiting 0 (λ _. tt) (λ _. tt)

  out-emptied : block_out (emptying n.waiting) b old ≡ old
  unfolding emptying
  out-emptied = if-eq (λ (p : Places). block_out p b old ≡ old) n.waiting 0 (λ _. refl) (λ _. refl)

module _ (n : Numbers) (q h : List Block) (b old : Block) (w : length q ≡ n.waiting) {o : Outcome Step} {p : Plan} where
  pub keeps : (i : table.Notice) (r : Option Header) → o ≡ answers (holding n q h) i r old → p ≡ keeping n (noticed i) r → Comes n q h b old o p
  unfolding number_of notice_of sent_in endpoint_after queue_after held_after
  keeps i r g e =
      rw (g, e) (record { accepted = refl; notice = numbered i; endpoint = refl; counted = sym w; room = tt; place = tt; sent = refl })

  pub holds : (i : ℕ) → HeldRoom (Join i) b h → o ≡ answers (holding n q (held_at i b h)) none (Some (header_of Ack n.local n.remote n.delivered)) old
      → p ≡ holding_plan n i → Comes n q h b old o p
  unfolding number_of notice_of sent_in endpoint_after queue_after held_after table.notice_number
  holds i m g e =
      rw (g, e) (record { accepted = refl; notice = refl; endpoint = refl; counted = sym w; room = tt; place = m; sent = refl })

  pub joins : n.waiting < queue_size → 1 ≤ length b → length b ≤ longest_block
      → o ≡ ok (says (record { state = n.state; local = n.local; remote = n.remote; accepted = n.accepted + 1; delivered = n.delivered; queue = q ++ (b ∷ []); held = h }) none (data_frame n.local n.remote n.accepted b))
      → p ≡ joining n → Comes n q h b old o p
  unfolding number_of notice_of sent_in endpoint_after queue_after held_after sent_by table.notice_number if_eq when
  joins free lo hi g e =
      rw (g, e)
      (record {
        accepted = refl;
        notice = refl;
        endpoint = refl;
        counted = omega (arith, length-append q (b ∷ []));
        room = (sym w, (omega arith, (lo, hi)));
        place = tt;
        sent = refl;
      })

  module _ (z : List ℕ) (lz : lengths_of h ≡ z) (l8 : length z ≡ held_size) where
    pub hands : (y : Block) → o ≡ answers (delivering (holding n q h)) (handed_up y) (Some (header_of Ack n.local n.remote (n.delivered + 1))) old
        → p ≡ handing n z → Comes n q h b old o p
    unfolding number_of notice_of sent_in endpoint_after queue_after table.notice_number
    hands y g e =
        rw (g, e)
        (record {
          accepted = refl;
          notice = refl;
          endpoint = ap (λ (l : List Block). holding (delivering_numbers n) q l) (moved_by z h lz l8 b);
          counted = sym w;
          room = tt;
          place = room_moved z h lz l8 b;
          sent = refl;
        })

    pub turns : (st d : ℕ) (i : table.Notice) (r : Option Header) → o ≡ answers (turned st d (holding n q h)) i r old → p ≡ turning n z st d (noticed i) r
        → Comes n q h b old o p
    unfolding number_of notice_of sent_in endpoint_after queue_after
    turns st d i r g e =
        rw (g, e)
        (record {
          accepted = refl;
          notice = numbered i;
          endpoint = λ j. record { state = st; local = n.local; remote = d; accepted = 0; delivered = 0; queue = emptied n q b old w j; held = cleared_by z h lz l8 b j };
          counted = sym (ap length (emptied n q b old w));
          room = room-emptied n q b old w;
          place = room-cleared z h lz l8 b;
          sent = ap (sent_by r) (out-emptied n q b old w);
        })

    pub begins : (st : ℕ) (r : Option Header) → o ≡ answers (begun st (holding n q h)) none r old → p ≡ beginning n z st r → Comes n q h b old o p
    unfolding number_of notice_of sent_in endpoint_after queue_after table.notice_number
    begins st r g e =
        rw (g, e)
        (record {
          accepted = refl;
          notice = refl;
          endpoint = λ j. record { state = st; local = n.local + 1; remote = 0; accepted = 0; delivered = 0; queue = emptied n q b old w j; held = cleared_by z h lz l8 b j };
          counted = sym (ap length (emptied n q b old w));
          room = room-emptied n q b old w;
          place = room-cleared z h lz l8 b;
          sent = ap (sent_by r) (out-emptied n q b old w);
        })

  pub releases : (m : ℕ) → n.waiting ≤ n.accepted → m ≤ n.accepted → o ≡ ok (quiet (table.releasing m (holding n q h)) none)
      → p ≡ releasing_plan n (m - (n.accepted - n.waiting)) → Comes n q h b old o p
  unfolding number_of notice_of sent_in endpoint_after queue_after held_after sent_by table.notice_number
  releases m lo hi g e =
      let k = m - (n.accepted - n.waiting) in
      rw (g, e)
      (record {
        accepted = refl;
        notice = refl;
        endpoint = ap (λ (j : ℕ). holding n (drop (m - (n.accepted - j)) q) h) (sym w);
        counted = omega (arith, length-drop k q);
        room = omega arith;
        place = tt;
        sent = refl;
      })
