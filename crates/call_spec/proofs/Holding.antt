-- What a record that holds a sound endpoint, and its page, pass, and what calls leave of them.
use Prim.Native.Nat.{ℕ, ◌≤◌}
use mathlib.Core.Path.{◌≡◌, sym, ap, ◌∙◌}
use mathlib.Core.Bool.{true}
use mathlib.Core.List.{List, ◌++◌}
use native.Mathlib.Omega.{arith}
use lib.ListN.{length, length-append}
use Rattle.octets.specs.Sizes.{page_size, last_incarnation}
use Rattle.octets.specs.Test.{Outcome, refused, ok, mapped}
use Rattle.octets.specs.Octets.{put, left}
use Rattle.octets.proofs.Octets.{put_front}
use Rattle.page.specs.Page.{used_for, goes_with, reserving, page_of}
use Rattle.page.proofs.Laws.{page_long, page_goes, page_reserves}
use Rattle.protocol.specs.Endpoint.{Endpoint, sound}
use Rattle.protocol.specs.Table.{Step}
use Rattle.protocol.specs.History.{endpoint_left}
use Rattle.protocol.specs.Limits.{Bounded, LeavesSound, LeavesBounded}
use Rattle.protocol.proofs.Calls.{Next}
use Rattle.call_spec.specs.Calls.{Format, record_after, page_after}
use Rattle.call_spec.specs.Claim.{lent, Passes, Lawful}
use Rattle.call_spec.specs.Holding.{GoesWith, Holding}

-- the one store keeps the page
pub stored : {page : List ℕ} {e x : Endpoint} → GoesWith page e → Next e x → e.local ≤ last_incarnation → GoesWith (reserving x.local page) x
stored {page} {e} {x} k n l = (
  k.0,
  ap (reserving x.local) k.1 ∙ page_reserves e.local x.local (n.left l) n.least n.most k.0,
)

module _ (format : Format) (law : Lawful format) {rec page : List ℕ} {e : Endpoint} (k : Holding format rec page e) where
  -- they pass 11, 12 and 15, and the endpoint is read again
  pub long : format.size ≤ length rec
  long = omega (arith, ap length k.lies.1, length-append (format.octets e) k.lies.0, law.long e k.is_sound k.bounded)

  pub passes : format.sound rec ≡ true
  passes = ap format.sound k.lies.1 ∙ law.passes e k.lies.0 k.is_sound k.bounded

  pub keeps : format.holds rec ≡ e
  keeps = ap format.holds k.lies.1 ∙ law.keeps e k.lies.0 k.is_sound k.bounded

  pub page-enough : page_size ≤ length page
  page-enough =
      let l = page_long (used_for e.local) (omega (arith, k.last)) in
      omega (arith, ap length k.paged.1, length-append (page_of (used_for e.local)) k.paged.0)

  pub goes : goes_with e.local page ≡ true
  goes = ap (goes_with e.local) k.paged.1 ∙ page_goes e.local k.last k.paged.0

  pub passes-both : Passes format (lent rec page)
  passes-both = record { is_sound = passes; goes_so = ap (λ (a : Endpoint). goes_with a.local page) keeps ∙ goes }

  -- another endpoint, written over it
  pub written : (x : Endpoint) → sound x ≡ true → Bounded x → put rec 0 (format.octets x) ≡ format.octets x ++ k.lies.0
  written x s b =
      ap (λ (d : List ℕ). put d 0 (format.octets x)) k.lies.1
      ∙ put_front (format.octets e) k.lies.0 (format.octets x) (law.long x s b ∙ sym (law.long e k.is_sound k.bounded))

  -- what a call leaves is such a record and such a page again
  pub leaves : (o : Outcome Step) → LeavesSound o → LeavesBounded o → Next e (endpoint_left e o)
      → Holding format (record_after format rec o) (page_after page o) (endpoint_left e o)
  unfolding record_after page_after mapped left
  leaves (refused n) s b m = k
  leaves (ok x) s b m = record {
    is_sound = s;
    bounded = b;
    last = m.left k.last;
    lies = (k.lies.0, written x.endpoint s b);
    paged = stored k.paged m k.last;
  }
