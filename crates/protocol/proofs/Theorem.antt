-- Demand 3 holds of every list of calls, no number is used twice, and so do the limits.
use Rattle.protocol.specs.History.{Act, History, after, ActDue}
use Rattle.protocol.specs.Endpoint.{Endpoint}
use Rattle.protocol.specs.World.{Ends, ends}
use Rattle.protocol.specs.Claim.{NoEndAlone, NoNumberTwice}
use Rattle.protocol.specs.Limits.{Sized, Limited, reading, WithinLimits}
use Rattle.protocol.proofs.Calls.{Deed, deed}
use Rattle.protocol.proofs.Limits.{Room, no_room, room_on}
use Rattle.protocol.proofs.Sound.{sounds}
use Rattle.protocol.proofs.Opening.{Joint, swap, acts, fresh-ends}
use Rattle.protocol.proofs.Numbers.{Numbers, numbers_on, no_numbers}
use Rattle.protocol.proofs.Order.{Flow, swap_flow, flows, no_flow, in_order}
use Rattle.protocol.proofs.World.{Invariant, Simulates, reached, no_end_alone, itself}

-- what holds of two ends that a list of calls has reached
pub record Reached (a b : History) : Type 0 where
  pub joint : Joint a b
  pub flow : Flow a b
  pub numbers_a : Numbers a
  pub numbers_b : Numbers b

-- what an act does at the first of them
deed_at : {a b : History} → Reached a b → (c : Act) → ActDue b c → Deed a b c (after c a)
deed_at h c d = deed h.joint.ends_a.sane h.joint.laden_a h.numbers_a.last c d

pub reach : Invariant Reached ActDue
reach =
    record {
      starts = record { joint = fresh-ends; flow = no_flow; numbers_a = no_numbers; numbers_b = no_numbers };
      turns = λ a b h. record { joint = swap h.joint; flow = swap_flow h.flow; numbers_a = h.numbers_b; numbers_b = h.numbers_a };
      goes_on = λ a b h c d.
          let x = deed_at h c d in
          record {
            joint = (acts h.joint x).joint;
            flow = flows h.flow h.joint.laden_a x;
            numbers_a = numbers_on h.numbers_a x;
            numbers_b = h.numbers_b;
          };
      meets = λ a b h c d. (acts h.joint (deed_at h c d)).met;
      in_order = λ a b h. in_order h.flow;
    }

-- no end opens without its partner
pub demand_3 : NoEndAlone ends ends
demand_3 = no_end_alone ends ends reach (itself Reached ActDue) (itself Reached ActDue)

-- Every endpoint that the list reaches is sound, and what it holds and has sent fits.
pub record Roomy (a b : History) : Type 0 where
  pub reached_both : Reached a b
  pub room_a : Room a
  pub room_b : Room b

pub roomy : Invariant Roomy Sized
roomy =
    record {
      starts = record { reached_both = reach.starts; room_a = no_room; room_b = no_room };
      turns = λ a b h. record { reached_both = reach.turns a b h.reached_both; room_a = h.room_b; room_b = h.room_a };
      goes_on = λ a b h c d.
          let r = h.reached_both in
          let k = reach.goes_on a b r c d.1 in
          record {
            reached_both = k;
            room_a = room_on r.joint.laden_a h.room_a h.room_b d.0 k.joint.ends_a.sane k.joint.laden_a (deed_at r c d.1);
            room_b = h.room_b;
          };
      meets = λ a b h c d. reach.meets a b h.reached_both c d.1;
      in_order = λ a b h. reach.in_order a b h.reached_both;
    }

pub limited : {a b : History} → Roomy a b → Limited a
limited h = record {
  is_sound = sounds _ (record {
    sane = h.reached_both.joint.ends_a.sane;
    laden = h.reached_both.joint.laden_a;
    blocks = h.room_a.blocks;
    fitting = h.room_a.fitting;
  });
  bounded = h.room_a.bounded;
  fits = h.room_a.fits;
}

-- no number is used twice at ends whose calls do as the protocol's
pub no_number_twice : (A B : Ends) {H : A.Record → Endpoint → Type 0} {K : B.Record → Endpoint → Type 0}
    → Simulates A Roomy Sized H → Simulates B Roomy Sized K → NoNumberTwice A B
no_number_twice A B s t start f calls d =
    let h = reached A B roomy s t start f calls d in
    (h.reached_both.numbers_a.once, h.reached_both.numbers_b.once)

-- the limits, where each block to send has 1 to 64 octets
pub limits : WithinLimits
limits start f calls d =
    let h = reached reading reading roomy (itself Roomy Sized) (itself Roomy Sized) start f calls d in
    (limited h, limited (roomy.turns _ _ h))
