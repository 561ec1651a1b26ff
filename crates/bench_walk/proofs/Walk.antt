-- The walk ends.
use Prim.Native.Nat.{ℕ, zero, suc, ◌+◌, ◌*◌, ◌≤◌}
use mathlib.Core.Path.{◌≡◌, refl, sym, ap, subst, ◌∙◌}
use mathlib.Core.Logic.{◌≢◌}
use mathlib.Core.Bool.{Bool, true, false, not, false≢true}
use mathlib.Core.List.{List}
use native.Mathlib.Omega.{arith}
use borrow.Author.Tests.{le-leb}
use lib.ListN.{length}
use Rattle.octets.specs.Sizes.{page_size}
use Rattle.octets.specs.Test.{when, if_eq, first, Outcome, refused, ok, and_then, number_of}
use Rattle.octets.specs.Octets.{Octets}
use Rattle.octets.proofs.Octets.{octets_take, octets_drop}
use Rattle.octets.proofs.Test.{by_eq}
use Rattle.protocol.specs.Table.{Step}
use Rattle.protocol.proofs.Rank.{at_most}
use Rattle.call_spec.specs.Calls.{record_after}
use Rattle.call_spec.specs.Claim.{LentAct, call}
use Rattle.call_spec.proofs.Holding as held
use Rattle.endpoint.specs.Record.{record_size}
use Rattle.lent_record.specs.Record.{format}
use Rattle.lent_record.proofs.Lawful.{lawful}
use Rattle.lent_record.proofs.Holds.{record_holding}
use Rattle.bench_log.specs.Log.{place_head, place_size, places, log_size, sender_at, length_at, frame_logged, holds}
use Rattle.bench_spec.specs.Bench.{Bench, At, lent_at, line_asks, call_outcome, comes, end_of, bench_after}
use Rattle.bench_spec.specs.Run.{line_after}
use Rattle.bench_spec.proofs.Delivery as delivery
use Rattle.std.specs.Prelude.{None, Some}
use Rattle.bench_query.specs.Found.{Found, changes, equal, delivers, query_questions, first_frame, Means}
use Rattle.bench_query.proofs.Delivery.{full, ready, not-held, to_a, to_b}
use Rattle.bench_query.proofs.Lowest.{so_equal, means}
use Rattle.bench_walk.specs.Walk.{delivery_line, delivered, walked, deliveries_left, Lendable, walk_end, EveryWalkEnds}
use Rattle.bench_walk.proofs.Line.{asks}
use Rattle.bench_walk.proofs.Round.{held_in, received, Kept, Goes, at_a, at_b}

-- 11, 12 and 15 are passed by what is kept, and the other way round where all is octets
pub kept_so : (w : Bench) → first (query_questions w) ≡ 0 → Lendable w → Kept w
kept_so w h l =
    let p = ready w h in
    let a = p.fit_a in
    let b = p.fit_b in
    record {
      end_a = record_holding w.a.rec w.a.page a.long l.octets_a a.is_sound a.page_long a.goes;
      end_b = record_holding w.b.rec w.b.page b.long l.octets_b b.is_sound b.page_long b.goes;
      log = record { long = p.long_log; octets = l.octets_log; few = p.few };
    }

passes : (w : Bench) → Kept w → first (query_questions w) ≡ 0
unfolding first when
passes w k =
    let a = held.passes-both format lawful k.end_a in
    let b = held.passes-both format lawful k.end_b in
    rw (le-leb record_size (length w.a.rec) (held.long format lawful k.end_a), le-leb record_size (length w.b.rec) (held.long format lawful k.end_b), le-leb page_size (length w.a.page) (held.page-enough format lawful k.end_a), le-leb page_size (length w.b.page) (held.page-enough format lawful k.end_b), le-leb log_size (length w.log) k.log.long, a.is_sound, b.is_sound, le-leb w.count places k.log.few, a.goes_so, b.goes_so) refl

-- a call that changes the record is accepted, and the record is another
changes_so : (rec : List ℕ) (o : Outcome Step) → changes rec o ≡ true → (y : Step) × (o ≡ ok y) × (record_after format rec (ok y) ≢ rec)
unfolding changes
changes_so rec (refused n) h = absurd (false≢true h)
changes_so rec (ok x) h = (x, refl, λ e. false≢true (sym (ap (λ (s : List ℕ). not (equal s rec)) e ∙ ap not (so_equal rec)) ∙ h))

-- The frame that the question names is delivered.
module _ (w : Bench) (k : Kept w) (n : ℕ) (f : first_frame w ≡ ok (Some n)) where
  named : Means w (ok (Some n))
  named = subst (Means w) f (means w)

  asked : line_asks w (delivery_line n).0 (delivery_line n).1 ≡ delivers w n
  asked = asks n w named.0 (omega (arith, named.1, k.log.few))

  is_held : (b : Bool) → holds w.count n w.log ≡ b → b ≡ true
  is_held true e = refl
  is_held false e = absurd (false≢true (sym (not-held w n e) ∙ named.2))

  there : holds w.count n w.log ≡ true
  there = let b = holds w.count n w.log in is_held b refl

  in_octets : Octets (frame_logged n w.log)
  unfolding frame_logged
  in_octets = octets_take (length_at n w.log) _ (octets_drop (n * place_size + place_head) w.log k.log.octets)

  abbrev act : LentAct
  act = call (received (frame_logged n w.log))

  -- what the line leaves, and its number
  pub record Done : Type 0 where
    pub goes_on : Goes w (delivered (ok (Some n)) w)
    pub accepted : number_of (comes w (line_asks w (delivery_line n).0 (delivery_line n).1)) ≡ 0

  by : (j : ℕ) {y : Step} → delivers w n ≡ ok (j, act) → call_outcome (lent_at j w) w.count act ≡ ok y → Goes w (bench_after j w (ok y)) → Done
  unfolding delivered line_after end_of comes and_then number_of
  by j d m g =
      let q = asked ∙ d in
      record {
        goes_on = subst (Goes w) (sym (ap (λ (x : Outcome At). bench_after (end_of x) w (comes w x)) q ∙ ap (bench_after j w) m)) g;
        accepted = ap (λ (x : Outcome At). number_of (comes w x)) q ∙ ap number_of m;
      }

  pub round : Done
  unfolding lent_at if_eq when
  round =
      by_eq (sender_at n w.log) 0
      (λ e.
      let c = changes_so w.b.rec _ (sym (to_b w n there e) ∙ named.2) in
      by 1 (delivery.to_b w n full there e) c.1 (at_b w k _ in_octets (c.1, c.2)))
      (λ e.
      let c = changes_so w.a.rec _ (sym (to_a w n there e) ∙ named.2) in
      by 0 (delivery.to_a w n full there e) c.1 (at_a w k _ in_octets (c.1, c.2)))

-- where nothing is delivered, nothing moves, and the answer stays
rests : (n : ℕ) (w : Bench) → delivered (first_frame w) w ≡ w → walked n w ≡ w
unfolding walked
rests zero w h = refl
rests (suc n) w h = ap (walked n) h ∙ rests n w h

stays : (n : ℕ) (w : Bench) {f : Found} → first_frame w ≡ f → delivered f w ≡ w → first_frame (walked n w) ≡ f
stays n w e d = ap first_frame (rests n w (ap (λ (f : Found). delivered f w) e ∙ d)) ∙ e

-- where a frame is named the walk goes on, and where none is it has ended; nothing is refused on the way
by_answer : (n : ℕ) (w : Bench) → Kept w → ((m : ℕ) → first_frame w ≡ ok (Some m) → first_frame (walked n w) ≡ ok None) → (f : Found) → first_frame w ≡ f
    → first_frame (walked n w) ≡ ok None
unfolding delivered
by_answer n w k g (ok (Some m)) e = g m e
by_answer n w k g (ok None) e = stays n w e refl
by_answer n w k g (refused j) e =
    let r = subst (Means w) e (means w) in
    absurd (r.1 (sym r.0 ∙ passes w k))

-- all that are left are made
rounds : (n : ℕ) (w : Bench) → Kept w → deliveries_left w ≤ n → first_frame (walked n w) ≡ ok None
unfolding walked
rounds zero w k h = by_answer zero w k (λ m e. absurd (omega (arith, (round w k m e).goes_on.less))) (first_frame w) refl
rounds (suc n) w k h =
    by_answer (suc n) w k
    (λ m e.
    let g = (round w k m e).goes_on in
    ap (λ (f : Found). first_frame (walked n (delivered f w))) e ∙ rounds n (delivered (ok (Some m)) w) g.kept (omega (arith, g.less)))
    (first_frame w) refl

pub walk_ends : EveryWalkEnds
unfolding delivered walk_end deliveries_left
walk_ends w l = record {
  accepted = λ n e. (round w (kept e) n e).accepted;
  fewer = λ n e. (round w (kept e) n e).goes_on.less;
  ends = λ n h. by-found n h (first_frame w) refl;
  at_most = λ h.
      let k = kept_so w h l in
      omega (arith, at_most (held_in w.a) k.end_a.is_sound, at_most (held_in w.b) k.end_b.is_sound);
}
  where
    kept : {n : ℕ} → first_frame w ≡ ok (Some n) → Kept w
    kept e = kept_so w (subst (Means w) e (means w)).0 l

    by-found : (n : ℕ) → deliveries_left w ≤ n → (f : Found) → first_frame w ≡ f → first_frame (walked n w) ≡ walk_end (first_frame w)
    by-found n h (ok (Some m)) e = rounds n w (kept e) h ∙ ap walk_end (sym e)
    by-found n h (ok None) e = stays n w e refl ∙ ap walk_end (sym e)
    by-found n h (refused k) e = stays n w e refl ∙ ap walk_end (sym e)
