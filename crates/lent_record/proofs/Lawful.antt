-- The record's format is lawful: what holds of every lawful format holds of it.
use mathlib.Core.Path.{◌≡◌, ap, ◌∙◌}
use mathlib.Core.Bool.{true}
use mathlib.Core.List.{◌++◌}
use native.Mathlib.Omega.{arith}
use lib.ListN.{length, length-append}
use Rattle.octets.proofs.Buffers.{length-padded}
use Rattle.octets.specs.Sizes.{queue_size, held_size}
use Rattle.octets.specs.Octets.{octets_of, lay}
use Rattle.protocol.specs.Endpoint as abstract
use Rattle.protocol.specs.Limits.{Bounded}
use Rattle.protocol.specs.Endpoint.{lengths_of}
use Rattle.protocol.proofs.Sound.{sound_so, lengths_length}
use Rattle.endpoint.specs.View.{places_size, places_of, pack, view}
use Rattle.endpoint.specs.Sound.{sound}
use Rattle.endpoint.specs.Record.{record_size, encode, RecordFits}
use Rattle.endpoint.proofs.Packs.{length-places}
use Rattle.endpoint.proofs.Held.{small_of, small-held, held, pack-sound}
use Rattle.endpoint.proofs.Record.{decode-encode}
use Rattle.call_spec.specs.Claim.{Lawful}
use Rattle.lent_record.specs.Record.{format}

-- the struct that holds an endpoint whose numbers have 32 bits
packed_fits : (e : abstract.Endpoint) → abstract.sound e ≡ true → Bounded e → RecordFits (pack e)
unfolding pack
packed_fits e s b =
    let f = sound_so e s in
    let q = e.queue in
    record {
      state = omega (arith, f.sane.known);
      local = omega (arith, b.local≤);
      remote = omega (arith, b.remote≤);
      accepted = omega (arith, b.accepted≤);
      delivered = omega (arith, b.delivered≤);
      waiting = omega (arith, f.laden.places);
      lengths = length-padded queue_size (lengths_of q) (omega (arith, lengths_length q, f.laden.places));
      blocks = length-padded places_size (places_of q) (omega (arith, length-places q (small_of q f.blocks), f.laden.places));
      held_lengths = length-padded held_size (lengths_of e.held) (omega (arith, lengths_length e.held, f.laden.eight));
      held_blocks = length-padded places_size (places_of e.held) (omega (arith, length-places e.held (small-held e s), f.laden.eight));
    }

length-encode : (e : abstract.Endpoint) → RecordFits (pack e) → length (encode (pack e)) ≡ record_size
unfolding encode lay octets_of
length-encode e f =
    let p = pack e in
    let l = length-append p.lengths (p.blocks ++ (p.held_lengths ++ p.held_blocks)) in
    let b = length-append p.blocks (p.held_lengths ++ p.held_blocks) in
    let h = length-append p.held_lengths p.held_blocks in
    omega (arith, l, b, h, f.lengths, f.blocks, f.held_lengths, f.held_blocks)

pub lawful : Lawful format
lawful =
    record {
      long = λ e s b. length-encode e (packed_fits e s b);
      passes = λ e rest s b. ap sound (decode-encode (pack e) rest (packed_fits e s b)) ∙ pack-sound e s;
      keeps = λ e rest s b. ap view (decode-encode (pack e) rest (packed_fits e s b)) ∙ held e s;
    }
