-- Calls in octets on the record of a sound endpoint do what the protocol's calls do that they say, one after the other; so the eight come
-- up in sequence.
use Prim.Native.Nat.{ℕ, zero, suc, ◌+◌, ◌≤◌, ◌<◌}
use mathlib.Core.Path.{◌≡◌, refl, ap, ◌∙◌}
use mathlib.Core.Bool.{true}
use mathlib.Core.List.{List, [], ◌∷◌, ◌++◌, Memᴰ}
use native.Mathlib.Omega.{arith}
use borrow.Author.Tests.{le-leb}
use lib.ListN.{length, get_or, replicate}
use Rattle.octets.specs.Sizes.{longest_frame, longest_block, held_size, last_number, page_size}
use Rattle.octets.specs.Test.{when, if_eq, in_range, first, Outcome, ok, outcome, refusing, mapped, and_then}
use Rattle.octets.specs.Octets.{size}
use Rattle.frame.specs.Frame.{Block, COLLECT, data_frame, collect}
use Rattle.frame.specs.Fits.{Fits, data_fits}
use Rattle.frame.specs.Layout.{is_frame, is_request, has_block, layout, numbers_size}
use Rattle.frame.specs.Read.{kind_of, after_head, request_at, fixed_ok, read_request}
use Rattle.frame.proofs.RoundTrip.{written_reads}
use Rattle.protocol.specs.Endpoint.{established, Endpoint, sized, sound}
use Rattle.protocol.specs.Table.{Step}
use Rattle.protocol.specs.History.{ask, deliver}
use Rattle.protocol.specs.History as protocol
use Rattle.protocol.specs.Limits.{Bounded, Readable}
use Rattle.protocol.specs.Sequence.{up_of}
use Rattle.protocol.specs.Sequence as protocol-sequence
use Rattle.protocol.proofs.Calls.{next_on}
use Rattle.protocol.proofs.Limits.{call_sound, call_bounded}
use Rattle.protocol.proofs.Sound.{sound_so, sized-at}
use Rattle.protocol.proofs.Sequence as proved
use Rattle.call_spec.specs.declared.Call.{Call}
use Rattle.call_spec.specs.declared.Call.TheVariants as call
use Rattle.call_spec.specs.Calls.{Arguments, Rooms, given, reads, said, does, block_room_ok, asked, Format, performed, record_after, page_after}
use Rattle.call_spec.specs.Claim.{Lawful}
use Rattle.call_spec.specs.Holding.{Holding, PerformsAsSaid}
use Rattle.call_spec.specs.Sequence.{comes_up, arrival, overtaking, EightComeUp}
use Rattle.call_spec.proofs.Holding.{long, passes, keeps, page-enough, goes, leaves}

pub has_room : (c : Call) (n : ℕ) → longest_block ≤ n → block_room_ok c n ≡ true
unfolding block_room_ok
has_room call.Request n h = le-leb longest_block n h
has_room call.Receive n h = refl

module _ (format : Format) (law : Lawful format) where
  -- a call on the record of a sound endpoint does what the protocol's call does that its octets say
  pub performs : PerformsAsSaid format
  unfolding performed asked does refusing and_then first when
  performs rec page e k c x h room block_room =
      rw (le-leb format.size (length rec) (long format law k), le-leb longest_frame c.room room, has_room c.call c.block_room block_room, le-leb page_size (length page) (page-enough format law k), passes format law k, keeps format law k, goes format law k, h) refl

  -- the calls of one list say those of the other
  abbrev Says : List Arguments → List protocol.Call → Type 0
  Says [] [] = Unit {0}
  Says [] (q ∷ qs) = ⊥
  Says (c ∷ cs) [] = ⊥
  Says (c ∷ cs) (q ∷ qs) = ((said c ≡ ok q) × Readable q × (longest_frame ≤ c.room) × (longest_block ≤ c.block_room)) × Says cs qs

  same_up : (cs : List Arguments) (qs : List protocol.Call) → Says cs qs → {rec page : List ℕ} {e : Endpoint} → Holding format rec page e
      → comes_up format cs rec page ≡ protocol-sequence.comes_up qs e
  unfolding comes_up protocol-sequence.comes_up
  same_up [] [] y k = refl
  same_up [] (q ∷ qs) y k = absurd y
  same_up (c ∷ cs) [] y k = absurd y
  same_up (c ∷ cs) (q ∷ qs) y {rec} {page} {e} k =
      let p = performs rec page e k c q y.0.0 y.0.2 y.0.3 in
      let o = protocol.perform q e in
      let l = leaves format law k o (call_sound q e k.is_sound y.0.1) (call_bounded q e k.is_sound k.bounded y.0.1) (next_on q e) in
      ap (λ (x : Outcome Step). up_of x ++ comes_up format cs (record_after format rec x) (page_after page x)) p
      ∙ ap (λ (x : List Block). up_of o ++ x) (same_up cs qs y.1 l)

  -- the octets of collect
  collects : reads call.Request (COLLECT ∷ []) ≡ ok (ask collect)
  unfolding reads mapped read_request fixed_ok kind_of after_head request_at is_frame is_request has_block numbers_size layout size in_range first outcome if_eq when
  collects = refl

  module _ (r : Rooms) (frames : longest_frame ≤ r.frame) (blocks : longest_block ≤ r.block) where
    says-collects : (m : ℕ) → Says (replicate m (given call.Request (COLLECT ∷ []) r)) (replicate m (ask collect))
    unfolding sized
    says-collects zero = tt
    says-collects (suc m) = ((collects, refl, frames, blocks), says-collects m)

    module _ (e : Endpoint) (s : sound e ≡ true) (b : Bounded e) (open_is : e.state ≡ established) (numbers : e.delivered + 7 < last_number)
        (bs : List Block) (l8 : length bs ≡ held_size) (sz : sized bs ≡ true) where
      -- a DATA of the eight fits
      fits : (i : ℕ) → i < held_size → Fits (data_frame e.remote e.local (e.delivered + i) (get_or bs i []))
      fits i h =
          let f = sound_so e s in
          let z = sized-at i bs sz (omega arith) in
          data_fits {n = e.delivered + i} (f.sane.remote≥ (omega arith)) b.remote≤ (f.sane.local≥ (omega arith)) b.local≤ (omega arith) z.0 z.1

      arrives : (i : ℕ) → i < held_size → reads call.Receive (arrival r e bs i).octets ≡ ok (protocol-sequence.arrival e bs i)
      unfolding reads mapped
      arrives i h = ap (mapped deliver) (written_reads _ (fits i h))

      says_all : (order : List ℕ) → ((i : ℕ) → Memᴰ i order → i < held_size) → Says (overtaking r e bs order) (protocol-sequence.overtaking e bs order)
      says_all [] only = says-collects 7
      says_all (j ∷ order) only =
          let h = only j (Memᴰ.head refl) in
          ((arrives j h, fits j h, frames, blocks), says_all order (λ i m. only i (Memᴰ.tail m)))

  pub in_sequence : EightComeUp format
  in_sequence e t = record {
    comes = λ r frames blocks rest more bs order l8 sz o.
        same_up (overtaking r e bs order) (protocol-sequence.overtaking e bs order) (says_all r frames blocks e t.is_sound t.bounded t.holds_none.is_open t.numbers bs l8 sz order o.only)
        (record { is_sound = t.is_sound; bounded = t.bounded; last = t.last; lies = (rest, refl); paged = (more, refl) })
        ∙ (proved.in_sequence e t.holds_none).comes bs order l8 sz o;
  }
