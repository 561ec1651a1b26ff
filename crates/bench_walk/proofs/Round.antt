-- One delivery of the walk: what it keeps, and that fewer are left.
use Prim.Native.Nat.{ℕ, ◌+◌, ◌-◌, ◌*◌, ◌≤◌, ◌<◌}
use mathlib.Core.Path.{◌≡◌, refl, sym, ap, subst, ◌∙◌}
use mathlib.Core.Logic.{◌≢◌}
use mathlib.Core.Bool.{true}
use mathlib.Core.List.{List, [], ◌∷◌}
use native.Mathlib.Omega.{arith}
use borrow.Author.Tests.{ltb-true}
use lib.Dec.{ltb, leb→le}
use lib.ListN.{length, length-append}
use Rattle.octets.specs.Sizes.{longest_frame}
use Rattle.octets.specs.Test.{when, if_eq, first, Outcome, refused, ok, mapped, and_then}
use Rattle.octets.specs.Octets.{put, left, Octets}
use Rattle.octets.proofs.Octets.{length_octets, no_octet, octets_put, length-put}
use Rattle.octets.proofs.Buffers.{length-padded}
use Rattle.octets.proofs.Test.{passing}
use Rattle.frame.specs.Frame.{CRAO, DRACK, ACK, Frame, control, ack_frame}
use Rattle.frame.specs.Read.{read_frame}
use Rattle.frame.proofs.Writing.{head-length, encode-control, encode_ack, octets_encode}
use Rattle.protocol.specs.Endpoint.{Endpoint}
use Rattle.protocol.specs.Table.{Sent, Step}
use Rattle.protocol.specs.History.{deliver, perform}
use Rattle.protocol.specs.History as protocol
use Rattle.protocol.specs.Rank.{lift, rank, Descends, stays, sends, falls}
use Rattle.protocol.proofs.Rank.{Plain, no_frame, of_control, of_ack, descends, plain}
use Rattle.call_spec.specs.declared.Call.TheVariants.{Receive}
use Rattle.call_spec.specs.Calls.{Arguments, given, reads, does, own_questions, asked, wire, performed, record_after}
use Rattle.call_spec.specs.Claim.{Lent, call}
use Rattle.call_spec.specs.Holding.{Holding}
use Rattle.call_spec.proofs.Holding.{written}
use Rattle.call_spec.proofs.Holding as held
use Rattle.lent_record.specs.Record.{format}
use Rattle.lent_record.specs.Told.{lent_after}
use Rattle.lent_record.proofs.Lawful.{lawful}
use Rattle.link.proofs.Stays.{goes_on}
use Rattle.bench_log.specs.Log.{place_size, places, log_size, place}
use Rattle.bench_log.proofs.Log.{octets_place}
use Rattle.bench_spec.specs.Bench as bench
use Rattle.bench_spec.specs.Bench.{Bench, call_outcome, log_after, count_after, bench_after}
use Rattle.bench_spec.proofs.Run.{came}
use Rattle.bench_query.proofs.Delivery.{full}
use Rattle.bench_walk.specs.Walk.{deliveries_left}

-- what an accepted delivery makes of the end e
abbrev Heard : Endpoint → Outcome Step → Type 0
Heard e (refused n) = Unit {0}
Heard e (ok x) = Descends e x × Plain x.sent

hears : (e : Endpoint) (q : Outcome Frame) → Heard e (and_then (mapped deliver q) (λ (c : protocol.Call). perform c e))
unfolding and_then mapped perform
hears e (refused n) = tt
hears e (ok f) = (descends e f, plain e f)

-- One that sends takes a place and lifts its end by no more than two; another that changes the end brings it down.
abbrev left_by : ℕ → Endpoint → ℕ
left_by used e = (1 + lift) * (places - used) + rank e

fewer : {e : Endpoint} {y : Step} (used : ℕ) → Descends e y → (y.endpoint ≡ e → ⊥) → when (bench.sends y.sent) (ltb used places) true ≡ true
    → left_by (count_after used (ok y)) y.endpoint < left_by used e
unfolding bench.sends when count_after
fewer used stays c l = absurd (c refl)
fewer used (sends h) c l = omega (arith, ltb-true used places l)
fewer used (falls h) c l = omega arith

-- what is sent: octets, and no more than a place has room for
octets_wire : {t : Sent} → Plain t → Octets (wire t)
unfolding wire
octets_wire no_frame = no_octet
octets_wire (of_control {k} {s} {r} a b) = octets_encode (control k s r) (omega (arith, leb→le k DRACK b)) no_octet
octets_wire (of_ack {s} {r} {n}) = octets_encode (ack_frame s r n) (omega arith) no_octet

short_wire : {t : Sent} → Plain t → length (wire t) ≤ longest_frame
unfolding wire
short_wire no_frame = omega arith
short_wire (of_control {k} {s} {r} a b) = rw (encode-control k s r (leb→le CRAO k a) (leb→le k DRACK b)) (omega (arith, head-length k s r))
short_wire (of_ack {s} {r} {n}) = rw (encode_ack s r n, length-append) (omega (arith, head-length ACK s r, length_octets 4 n))

-- the log with one place more in use, or as it was
pub record LogKept (used : ℕ) (log : List ℕ) : Type 0 where
  pub long : log_size ≤ length log
  pub octets : Octets log
  pub few : used ≤ places

entered : {t : Sent} → Plain t → (i : ℕ) → i ≤ 1 → {used : ℕ} {log : List ℕ} → LogKept used log → used < places
    → LogKept (used + 1) (put log (used * place_size) (place i (wire t)))
unfolding place
entered {t} p i h {used} {log} k l =
    let s = short_wire p in
    record {
      long = omega (arith, k.long, length-put log (place i (wire t)) (used * place_size) (omega (arith, k.long, length-padded longest_frame (wire t) s)));
      octets = octets_put log (place i (wire t)) (used * place_size) k.octets (octets_place i (wire t) (omega arith) (omega arith) (octets_wire p));
      few = omega arith;
    }

logs : {t : Sent} → Plain t → (i : ℕ) → i ≤ 1 → {used : ℕ} {log : List ℕ} → LogKept used log → when (bench.sends t) (ltb used places) true ≡ true
    → LogKept (when (bench.sends t) (used + 1) used) (when (bench.sends t) (put log (used * place_size) (place i (wire t))) log)
unfolding bench.sends when
logs no_frame i h k l = k
logs (of_control a b) i h {used} k l = entered (of_control a b) i h k (ltb-true used places l)
logs of_ack i h {used} k l = entered of_ack i h k (ltb-true used places l)

-- an end
abbrev pub HeldBy : Lent → Endpoint → Type 0
HeldBy r e = Holding format r.rec r.page e

abbrev pub held_in : Lent → Endpoint
held_in r = format.holds r.rec

-- A delivery of s to it, which comes to y: such an end and such a log again, and fewer deliveries.
record Leaves (r : Lent) (i used : ℕ) (log : List ℕ) (y : Step) : Type 0 where
  pub end : HeldBy (lent_after r (ok y)) (held_in (lent_after r (ok y)))
  pub log_after : LogKept (count_after used (ok y)) (log_after i log used (ok y))
  pub less : left_by (count_after used (ok y)) (held_in (lent_after r (ok y))) < left_by used (held_in r)

abbrev pub received : List ℕ → Arguments
received s = given Receive s full

-- it is accepted, and changes the record
abbrev pub Changes : Lent → ℕ → List ℕ → Step → Type 0
Changes r used s y = (call_outcome r used (call (received s)) ≡ ok y) × (record_after format r.rec (ok y) ≢ r.rec)

module _ (r : Lent) (k : HeldBy r (held_in r)) (s : List ℕ) (o : Octets s) (used : ℕ) {y : Step} (c : Changes r used s y) where
  accepted : performed format r.rec r.page (received s) ≡ ok y
  accepted = (came r used (call (received s)) c.0).0

  has_place : when (bench.sends y.sent) (ltb used places) true ≡ true
  has_place = (came r used (call (received s)) c.0).1

  heard : Heard (held_in r) (ok y)
  unfolding performed asked does reads
  heard =
      let a = (passing (first ((11, _) ∷ [])) accepted).1 in
      let b = (passing (first (own_questions (format.sound r.rec) (held_in r).local r.page (received s))) a).1 in
      subst (Heard (held_in r)) b (hears (held_in r) (read_frame s))

  after : HeldBy (lent_after r (ok y)) y.endpoint
  after = goes_on _ _ _ k (received s) o (ok y) accepted

  -- an end that is left as it is has the same record
  unchanged : y.endpoint ≡ held_in r → record_after format r.rec (ok y) ≡ r.rec
  unfolding record_after mapped left
  unchanged z =
      ap (λ (e : Endpoint). put r.rec 0 (format.octets e)) z
      ∙ written format lawful k (held_in r) k.is_sound k.bounded
      ∙ sym k.lies.1

  leaves : (i : ℕ) → i ≤ 1 → {log : List ℕ} → LogKept used log → Leaves r i used log y
  unfolding log_after count_after
  leaves i h l =
      let e = held.keeps format lawful after in
      record {
        end = subst (HeldBy (lent_after r (ok y))) (sym e) after;
        log_after = logs heard.1 i h l has_place;
        less = rw e (fewer used heard.0 (λ z. c.1 (unchanged z)) has_place);
      }

-- what the walk keeps of a bench
pub record Kept (w : Bench) : Type 0 where
  pub end_a : HeldBy w.a (held_in w.a)
  pub end_b : HeldBy w.b (held_in w.b)
  pub log : LogKept w.count w.log

-- A delivery to A or to B keeps it, and leaves fewer.
pub record Goes (w x : Bench) : Type 0 where
  pub kept : Kept x
  pub less : deliveries_left x < deliveries_left w

module _ (w : Bench) (k : Kept w) (s : List ℕ) (o : Octets s) {y : Step} where
  pub at_a : Changes w.a w.count s y → Goes w (bench_after 0 w (ok y))
  unfolding bench_after if_eq when deliveries_left
  at_a c =
      let x = leaves w.a k.end_a s o w.count c 0 (omega arith) k.log in
      record { kept = record { end_a = x.end; end_b = k.end_b; log = x.log_after }; less = omega (arith, x.less) }

  pub at_b : Changes w.b w.count s y → Goes w (bench_after 1 w (ok y))
  unfolding bench_after if_eq when deliveries_left
  at_b c =
      let x = leaves w.b k.end_b s o w.count c 1 (omega arith) k.log in
      record { kept = record { end_a = k.end_a; end_b = x.end; log = x.log_after }; less = omega (arith, x.less) }
