-- What an accepted call adds to what its end has sent, and how long a frame is.
use Prim.Native.Nat.{ℕ}
use mathlib.Core.Path.{◌≡◌, refl, ap}
use mathlib.Core.List.{List, map, Memᴰ}
use native.Mathlib.Omega.{arith}
use lib.ListN.{length-append}
use Rattle.octets.specs.Test.{ok, mapped}
use Rattle.octets.proofs.Test.{passing, then_of}
use Rattle.octets.proofs.Octets.{length_octets}
use Rattle.frame.specs.Frame.{Frame}
use Rattle.frame.specs.Fits.{control_fits, data_fits, ack_fits}
use Rattle.frame.specs.Claim.{EncodeShort}
use Rattle.frame.specs.Layout.{encode}
use Rattle.frame.proofs.Writing.{head-length, encode-control, encode_ack, encode_data}
use Rattle.protocol.specs.Table.{Sent, nothing, frame, Step}
use Rattle.protocol.specs.History.{also, sent, recorded}
use Rattle.protocol.specs.History as protocol
use Rattle.protocol.specs.World.{End, called}
use Rattle.call_spec.specs.Calls.{said, does, asked, performed}
use Rattle.call_spec.specs.Claim.{Lent, LentAct, call, restart, cut}
use Rattle.lent_record.specs.Record.{ends}

-- only a call whose octets say one is accepted; a restart says one always
says : (r : Lent) (c : LentAct) {y : Step} → ends.comes r c ≡ ok y → (x : protocol.Act) × (ends.said r c ≡ ok x)
unfolding performed asked does mapped
says r (call c) h =
    let s = then_of (said c) _ (passing _ (passing _ h).1).1 in
    (protocol.call s.0, ap (mapped protocol.call) s.1)
says r (restart rec) h = (_, refl)
says r (cut c rec) h = (_, refl)

-- what the end has sent after it
gains : (c : LentAct) (e : End Lent) {y : Step} → ends.comes e.rec c ≡ ok y
    → sent (called ends c e).history ≡ also y.sent (sent e.history)
unfolding called recorded sent
gains c e h = rw ((says e.rec c h).1, h) refl

-- so it has sent what it had, and the frame of this call
also_keeps : (t : Sent) (fs : List Frame) (s : List ℕ) → Memᴰ s (map encode fs) → Memᴰ s (map encode (also t fs))
also_keeps nothing fs s m = m
also_keeps (frame f) fs s m = Memᴰ.tail m

pub grows : (c : LentAct) (e : End Lent) {y : Step} → ends.comes e.rec c ≡ ok y
    → (s : List ℕ) → Memᴰ s (map encode (sent e.history)) → Memᴰ s (map encode (sent (called ends c e).history))
grows c e {y} h s m = rw (gains c e h) (also_keeps y.sent (sent e.history) s m)

pub has_sent : (c : LentAct) (e : End Lent) {y : Step} → ends.comes e.rec c ≡ ok y
    → (f : Frame) → y.sent ≡ frame f → Memᴰ f (sent (called ends c e).history) × Memᴰ (encode f) (map encode (sent (called ends c e).history))
has_sent c e {y} h f t = rw (gains c e h, t) (Memᴰ.head refl, Memᴰ.head refl)

-- a frame has at most 78 octets
pub encode_short : EncodeShort
encode_short _ (control_fits k {s} {r} h g _ _ _ _) = rw (encode-control k s r h g) (omega (arith, head-length k s r))
encode_short _ (data_fits {s} {r} {n} {b} _ _ _ _ _ _ h) =
    rw (encode_data s r n b h, length-append, length-append, length-append) (omega (arith, head-length 8 s r, length_octets 4 n))
encode_short _ (ack_fits {s} {r} {n} _ _ _ _ _) = rw (encode_ack s r n, length-append) (omega (arith, head-length 9 s r, length_octets 4 n))
