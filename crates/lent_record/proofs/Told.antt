-- What is told of a lent record, and the record in its octets.
use Prim.Native.Nat.{ℕ, ◌≤◌, ◌<◌}
use mathlib.Core.Path.{◌≡◌, refl}
use mathlib.Core.List.{List}
use native.Mathlib.Omega.{arith}
use borrow.Author.Tests.{le-leb, lt-leb}
use lib.ListN.{length, take, take-append-drop}
use lib.Seq.{length-take-le}
use Rattle.octets.specs.Sizes.{queue_size, held_size}
use Rattle.octets.specs.Test.{when, Outcome, refused, ok, mapped, number_of}
use Rattle.octets.specs.Octets.{put, left, Octets}
use Rattle.octets.proofs.Buffers.{put_fits, taken}
use Rattle.octets.proofs.Parts.{length_part}
use Rattle.protocol.specs.Table.{Step}
use Rattle.call_spec.specs.Calls.{wire, buffer_after}
use Rattle.call_spec.specs.Answers.{notice_of, sent_in, block_of}
use Rattle.endpoint.specs.View.{places_size, pack}
use Rattle.endpoint.specs.Record.{record_size, encode, decode, lengths_at, blocks_at, held_lengths_at, held_blocks_at}
use Rattle.endpoint.proofs.Packs.{Long}
use Rattle.endpoint.proofs.Record.{encode-decode}
use Rattle.lent_record.specs.Told.{told_of, status_of, sent_of, answer_of}

-- the frame sent has room in its buffer, and stands at its start
pub sent_fits : (d : List ℕ) (o : Outcome Step) {x : List ℕ} {n : ℕ} → x ≡ buffer_after d o → length x ≡ length d → n ≡ sent_of o → n ≤ length d
unfolding sent_of buffer_after mapped left
sent_fits d (refused k) e l h = omega arith
sent_fits d (ok y) e l h = omega (arith, put_fits d (wire y.sent) e l)

pub sent_taken : (d : List ℕ) (o : Outcome Step) {x : List ℕ} {n : ℕ} → x ≡ buffer_after d o → n ≡ sent_of o → take n x ≡ wire (sent_in o)
unfolding sent_of sent_in wire buffer_after mapped left
sent_taken d (refused k) e h = rw h refl
sent_taken d (ok y) e h = taken d (wire y.sent) e h

-- a record written over itself
pub rewritten : (rec : List ℕ) → record_size ≤ length rec → Octets rec → put rec 0 (encode (decode rec)) ≡ rec
unfolding put
rewritten rec long o =
    let l : length (take record_size rec) ≡ record_size = length-take-le record_size rec long in
    rw (encode-decode rec o long, l) (take-append-drop record_size rec)

pub decode_long : (rec : List ℕ) → record_size ≤ length rec → Long (decode rec)
unfolding decode
decode_long rec long = record {
  lengths = length_part rec lengths_at queue_size (omega arith);
  blocks = length_part rec blocks_at places_size (omega arith);
  held_lengths = length_part rec held_lengths_at held_size (omega arith);
  held_blocks = length_part rec held_blocks_at places_size (omega arith);
}

-- what is told of a record as it stands: of a buffer that is too short for one nothing, else its numbers
pub tells_short : (rec : List ℕ) (n : ℕ) → length rec < record_size
    → record { status = record { number = n; state = 0; notice = 0; local = 0; remote = 0 }; sent = 0; block = 0 } ≡ answer_of rec (refused n)
unfolding answer_of status_of told_of sent_of block_of notice_of number_of pack when
tells_short rec n h = rw (lt-leb record_size (length rec) h) refl

pub tells : (rec : List ℕ) (n : ℕ) → record_size ≤ length rec
    → record { number = n; state = (decode rec).state; notice = 0; local = (decode rec).local; remote = (decode rec).remote } ≡ status_of rec (refused n)
unfolding status_of told_of notice_of number_of when
tells rec n h = rw (le-leb record_size (length rec) h) refl
