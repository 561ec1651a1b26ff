-- Whether receiving a frame changes a record, from the plan for it.
use Prim.Native.Nat.{ℕ, ◌≤◌}
use mathlib.Core.Path.{◌≡◌, refl, sym, ap, ◌∙◌}
use mathlib.Core.Logic.{◌≢◌}
use mathlib.Core.Bool.{true, false, not, ◌&&◌, false≢true}
use mathlib.Core.List.{List, [], ◌∷◌}
use native.Mathlib.Omega.{arith}
use borrow.Author.Tests.{eqb-true, eq-eqb, le-leb}
use lib.Dec.{eqb}
use Rattle.std.specs.Prelude.{Ok, Err}
use Rattle.octets.specs.declared.refusal.Refusal.{Refusal}
use lib.ListN.{length, get_or, set, drop, length-append, length-drop, drop_of_length-le}
use lib.Seq.{get_or-set_same}
use Rattle.octets.specs.Sizes.{longest_frame, longest_block, held_size, page_size}
use Rattle.octets.specs.Test.{when, Outcome, refused, ok, mapped, number_of}
use Rattle.octets.specs.Octets.{put, left, Octets}
use Rattle.octets.proofs.Test.{both, joined}
use Rattle.octets.proofs.Each.{alike}
use Rattle.frame.specs.Frame.{Block}
use Rattle.frame.specs.Read.{cut_block}
use Rattle.protocol.specs.Endpoint as abstract
use Rattle.protocol.specs.Table.{Step, first_copy, held_at}
use Rattle.call_spec.specs.declared.Call.TheVariants.{Receive}
use Rattle.call_spec.specs.Calls.{Arguments, given, rooms, does, performed, record_after}
use Rattle.call_spec.specs.Claim.{lent}
use Rattle.step_rules.specs.declared.Numbers.{Numbers}
use Rattle.step_rules.specs.Internal.{holding}
use Rattle.step_plan.specs.declared.Plan.{Plan}
use Rattle.step_plan.specs.declared.Places.{Places}
use Rattle.step_plan.specs.declared.Places.TheVariants.{Keep, Join, Release, Clear}
use Rattle.call_spec.specs.Answers.{endpoint_after}
use Rattle.call_spec.proofs.Sequence.{has_room}
use Rattle.step_plan.specs.Internal.{queue_after, held_after, Room, HeldRoom, Comes, same_numbers, staying, leaves_alone}
use Rattle.endpoint.specs.declared.Endpoint.{Endpoint}
use Rattle.endpoint.specs.View.{pack, place_block, view}
use Rattle.endpoint.specs.Sound.{sound}
use Rattle.endpoint.specs.Record.{record_size, decode}
use Rattle.endpoint.specs.Record as endpoint
use Rattle.endpoint.specs.Internal.{numbers_of}
use Rattle.endpoint.proofs.Packs.{count, length-tab, pack-view}
use Rattle.endpoint.proofs.Sounds.{tidy, tidy-held}
use Rattle.endpoint_plan.specs.Calls.{outcome_of}
use Rattle.endpoint_plan.specs.Internal.{Plans, PlansAny}
use Rattle.endpoint_plan.proofs.Ready.{ready}
use Rattle.endpoint_step.proofs.Laws.{leaves}
use Rattle.lent_record.specs.Record.{format, paged_for}
use Rattle.lent_record.proofs.Told.{rewritten, decode_long}
use Rattle.link.proofs.Answers.{enough}
use Rattle.lent_record.proofs.Lawful.{lawful}
use Rattle.lent_record.proofs.Holds.{bounded}
use Rattle.bench_call.specs.Internal.{outcome_at, has_place}
use Rattle.bench_call.proofs.Moves.{by-plan, no-plan}
use Rattle.bench_query.specs.Found.{equal, changes}
use Rattle.bench_query.proofs.Lowest.{equal_so, so_equal}

-- the test of the numbers
same_so : (n m : Numbers) → same_numbers n m ≡ true → n ≡ m
unfolding same_numbers
same_so n m h =
    let a = both (eqb n.state m.state) _ h in
    let b = both (eqb n.local m.local) _ a.1 in
    let c = both (eqb n.remote m.remote) _ b.1 in
    let d = both (eqb n.accepted m.accepted) _ c.1 in
    let e = both (eqb n.delivered m.delivered) _ d.1 in
    λ i. record {
      state = eqb-true n.state m.state a.0 i;
      local = eqb-true n.local m.local b.0 i;
      remote = eqb-true n.remote m.remote c.0 i;
      accepted = eqb-true n.accepted m.accepted d.0 i;
      delivered = eqb-true n.delivered m.delivered e.0 i;
      waiting = eqb-true n.waiting m.waiting e.1 i;
    }

so_same : (n m : Numbers) → n ≡ m → same_numbers n m ≡ true
unfolding same_numbers
so_same n m h =
    joined (eq-eqb _ _ (ap (λ (x : Numbers). x.state) h))
    (joined (eq-eqb _ _ (ap (λ (x : Numbers). x.local) h))
    (joined (eq-eqb _ _ (ap (λ (x : Numbers). x.remote) h))
    (joined (eq-eqb _ _ (ap (λ (x : Numbers). x.accepted) h))
    (joined (eq-eqb _ _ (ap (λ (x : Numbers). x.delivered) h)) (eq-eqb _ _ (ap (λ (x : Numbers). x.waiting) h))))))

-- a refusal changes nothing
refused_none : (rec : List ℕ) (o : Outcome Step) → number_of o ≢ 0 → false ≡ changes rec o
unfolding changes number_of
refused_none rec (refused n) h = refl
refused_none rec (ok x) h = absurd (h refl)

-- what changes is what differs, since a refusal leaves the record
differs : (rec : List ℕ) (o : Outcome Step) → not (equal (record_after format rec o) rec) ≡ changes rec o
unfolding changes record_after mapped left
differs rec (refused n) = ap not (so_equal rec)
differs rec (ok x) = refl

-- the waiting blocks change only with their count
stays : (k : Places) (b : Block) (q : List Block) → Room k b (length q) → length (queue_after k b q) ≡ length q → queue_after k b q ≡ q
unfolding queue_after
stays Keep b q r h = refl
stays (Join i) b q r h = absurd (omega (arith, length-append q (b ∷ [])))
stays (Release k) b q r h = let z : k ≡ 0 = omega (arith, length-drop k q) in ap (λ (j : ℕ). drop j q) z
stays Clear b q r h = sym (drop_of_length-le q {i = 0} (omega arith))

-- so do the held ones where the plan leaves them
held_stay : (k : Places) (x : Block) (h : List Block) → staying k ≡ true → held_after k x h ≡ h
unfolding staying held_after
held_stay Keep x h t = refl
held_stay (Join i) x h t = absurd (false≢true t)
held_stay (Release k) x h t = absurd (false≢true t)
held_stay Clear x h t = absurd (false≢true t)

-- and where it does not, they do not
held_stayed : (k : Places) (x : Block) (h : List Block) → length h ≡ held_size → HeldRoom k x h → held_after k x h ≡ h → staying k ≡ true
unfolding staying held_after held_at first_copy
held_stayed Keep x h l r e = refl
held_stayed (Join i) x h l r e =
    let z = r.1.0 in
    absurd (omega (arith, ap length (sym (get_or-set_same h i x [] (omega (arith, r.0, l))) ∙ ap (λ (b : Block). get_or (set h i (first_copy b x)) i []) (sym z) ∙ ap (λ (q : List Block). get_or q i []) e ∙ z), r.1.1.0))
held_stayed (Release k) x h l r e = absurd (r.1 e)
held_stayed Clear x h l r e = absurd (r e)

module _ (rec : List ℕ) (long : record_size ≤ length rec) (fine : sound (decode rec) ≡ true) where
  abbrev end : Endpoint
  end = decode rec

  -- what leaves the endpoint leaves the record
  keeps : Octets rec → (o : Outcome Step) → endpoint_after (view end) o ≡ view end → record_after format rec o ≡ rec
  unfolding endpoint_after record_after mapped left
  keeps oc (refused n) h = refl
  keeps oc (ok x) h =
      ap (λ (e : abstract.Endpoint). put rec 0 (endpoint.encode (pack e))) h
      ∙ ap (λ (e : Endpoint). put rec 0 (endpoint.encode e)) (pack-view end (tidy end fine (decode_long rec long)) (tidy-held end fine (decode_long rec long)))
      ∙ rewritten rec long oc

  module _ (page : List ℕ) (page_long : page_size ≤ length page) (goes : paged_for rec page ≡ true) (s : List ℕ) (count-used : ℕ) where
    abbrev call : Arguments
    call = given Receive s (rooms longest_frame longest_block)

    abbrev hears : Outcome Step
    hears = does Receive s (view end)

    -- the record is sound, its page goes with it, and there is room for a frame
    ready-is : outcome_of end page call ≡ hears
    unfolding view
    ready-is = ready end page call (omega arith) (has_room Receive longest_block (omega arith)) page_long fine goes

    comes-to : performed format rec page call ≡ hears
    comes-to = enough rec long page call ∙ ready-is

    -- what leaves the record leaves the endpoint
    kept : Octets rec → Octets s → (o : Outcome Step) → hears ≡ o → record_after format rec o ≡ rec → endpoint_after (view end) o ≡ view end
    unfolding endpoint_after record_after mapped left put
    kept oc os (refused n) e h = refl
    kept oc os (ok x) e h =
        let l = leaves end (decode_long rec long) page call os _ (ready-is ∙ e) in
        sym (lawful.keeps x.endpoint _ l.is_sound (l.bounded (bounded rec oc long))) ∙ ap format.holds h

    abbrev made : Outcome Step
    made = outcome_at (lent rec page) count-used call

    -- refused by 3 to 7
    pub refuses : (q : Refusal) → PlansAny end Receive s (Err q) → false ≡ changes rec made
    unfolding view changes
    refuses q h =
        rw (no-plan (lent rec page) long count-used call q (h page (rooms longest_frame longest_block) (joined (le-leb longest_frame longest_frame (omega arith)) (has_room Receive longest_block (omega arith))) page_long goes))
        refl

    module _ {p : Plan} (h : PlansAny end Receive s (Ok p)) where
      abbrev b : Block
      b = cut_block s

      plans : Plans end page call (Ok p)
      unfolding view
      plans = h page (rooms longest_frame longest_block) (joined (le-leb longest_frame longest_frame (omega arith)) (has_room Receive longest_block (omega arith))) page_long goes

      planned : Comes (numbers_of end) (view end).queue (view end).held b (place_block end.lengths end.blocks 0) hears p
      planned = rw ready-is at plans.comes

      by-14 : outcome_at (lent rec page) count-used call ≡ when (has_place p.reply count-used) (performed format rec page call) (refused 14)
      by-14 = by-plan (lent rec page) long count-used call {p = p} plans

      -- refused by 14, and not
      pub too-full : has_place p.reply count-used ≡ false → false ≡ changes rec made
      unfolding when number_of
      too-full t = refused_none rec made (λ k. omega (arith, rw (by-14, t) at k))

      is_made : has_place p.reply count-used ≡ true → made ≡ hears
      unfolding when
      is_made t = by-14 ∙ rw t comes-to

      -- the same numbers, and the held blocks stay
      unchanged : p.numbers ≡ numbers_of end → staying p.held ≡ true → endpoint_after (view end) hears ≡ view end
      unfolding view
      unchanged k t =
          let w = sym planned.counted ∙ ap (λ (x : Numbers). x.waiting) k ∙ sym (count end) in
          let q = stays p.queue b (view end).queue planned.room w in
          let d = held_stay p.held b (view end).held t in
          sym planned.endpoint ∙ (λ i. holding (k i) (q i) (d i))

      -- and the other way round
      same-numbers : endpoint_after (view end) hears ≡ view end → p.numbers ≡ numbers_of end
      unfolding view
      same-numbers g =
          let k = planned.endpoint ∙ g in
          let w = planned.counted ∙ ap (λ (x : abstract.Endpoint). length x.queue) k ∙ count end in
          λ i. record { state = (k i).state; local = (k i).local; remote = (k i).remote; accepted = (k i).accepted; delivered = (k i).delivered; waiting = w i }

      same-held : endpoint_after (view end) hears ≡ view end → staying p.held ≡ true
      unfolding view
      same-held g =
          held_stayed p.held b (view end).held (length-tab held_size (place_block end.held_lengths end.held_blocks)) planned.place
          (ap (λ (x : abstract.Endpoint). x.held) (planned.endpoint ∙ g))

      pub tells : {n : Numbers} → n ≡ numbers_of end → Octets rec → Octets s → has_place p.reply count-used ≡ true
          → not (leaves_alone p n) ≡ changes rec made
      tells {n} e oc os t =
          ap not
          (alike (same_numbers p.numbers n && staying p.held) (equal (record_after format rec hears) rec)
          (λ b.
          let k = both (same_numbers p.numbers n) _ b in
          rw (keeps oc hears (unchanged (same_so p.numbers n k.0 ∙ e) k.1)) (so_equal rec))
          (λ b.
          let g = kept oc os hears refl (equal_so (record_after format rec hears) rec b) in
          joined (so_same p.numbers n (same-numbers g ∙ sym e)) (same-held g)))
          ∙ differs rec hears
          ∙ ap (changes rec) (sym (is_made t))
