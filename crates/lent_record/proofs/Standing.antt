-- How an end stands, from its record.
use Prim.Native.Nat.{ℕ, ◌≤◌}
use mathlib.Core.Path.{◌≡◌, refl, sym, ap, ◌∙◌}
use mathlib.Core.List.{List}
use borrow.Author.Tests.{le-leb}
use lib.ListN.{length}
use Rattle.octets.specs.Test.{when, refused, ok, mapped, number_of}
use Rattle.octets.specs.Octets.{put, left}
use Rattle.protocol.specs.Endpoint.{Endpoint}
use Rattle.protocol.specs.Table.{notice_number}
use Rattle.call_spec.specs.Calls.{record_after}
use Rattle.call_spec.specs.Answers.{notice_of}
use Rattle.call_spec.specs.Holding.{Holding}
use Rattle.call_spec.proofs.Holding.{keeps, written}
use Rattle.endpoint.specs.View.{pack, view}
use Rattle.endpoint.specs.Record.{record_size}
use Rattle.lent_record.specs.Record.{format}
use Rattle.lent_record.specs.Told.{told_of, status_of, stands}
use Rattle.lent_record.proofs.Lawful.{lawful}

-- a refusal by no number tells as much as how the end stands
pub tells_standing : (rec : List ℕ) → record_size ≤ length rec → status_of rec (refused 0) ≡ status_of rec (ok (stands rec))
unfolding status_of told_of notice_of number_of notice_number pack view when
tells_standing rec long = rw (le-leb record_size (length rec) long) refl

-- nothing moves
pub stands_still : {rec page : List ℕ} {e : Endpoint} → Holding format rec page e → record_after format rec (ok (stands rec)) ≡ rec
unfolding record_after mapped left
stands_still {rec} {e = e} k =
    ap (λ (a : Endpoint). put rec 0 (format.octets a)) (keeps format lawful k)
    ∙ written format lawful k e k.is_sound k.bounded ∙ sym k.lies.1
