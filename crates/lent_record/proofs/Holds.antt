-- A sound record in octets holds an endpoint, and its page is the one that goes with it.
use Prim.Native.Nat.{ℕ, ◌≤◌}
use mathlib.Core.Path.{◌≡◌, refl, sym, ap, ◌∙◌}
use mathlib.Core.Bool.{true}
use mathlib.Core.List.{List, [], ◌++◌, append-nil}
use native.Mathlib.Omega.{arith}
use borrow.Author.Tests.{le-leb}
use lib.ListN.{length, drop, take-append-drop}
use Rattle.octets.specs.Sizes.{page_size}
use Rattle.octets.specs.Test.{when, first}
use Rattle.page.specs.Page.{new_page}
use Rattle.page.proofs.Laws.{goes_last, page_is}
use Rattle.octets.specs.Octets.{Octets}
use Rattle.octets.proofs.Octets.{field_32}
use Rattle.protocol.specs.Endpoint.{fresh}
use Rattle.protocol.specs.Endpoint as abstract
use Rattle.protocol.specs.History.{now}
use Rattle.protocol.specs.Limits.{Bounded}
use Rattle.protocol.proofs.Theorem.{roomy, limited}
use Rattle.endpoint.specs.View.{view}
use Rattle.endpoint.specs.Record.{local_at, remote_at, accepted_at, delivered_at, record_size, encode, decode}
use Rattle.endpoint.proofs.Packs.{pack-view}
use Rattle.endpoint.proofs.Record.{encode-decode}
use Rattle.endpoint.proofs.Sounds.{tidy, tidy-held, view-sound}
use Rattle.call_spec.specs.Holding.{Holding}
use Rattle.call_spec.proofs.Holding.{long, passes, keeps, page-enough, goes}
use Rattle.lent_record.specs.Record.{format, paged_for, record_questions}
use Rattle.lent_record.specs.Told.{fresh_record}
use Rattle.lent_record.proofs.Lawful.{lawful}
use Rattle.lent_record.proofs.Told.{decode_long}

-- the numbers of a record in octets have 32 bits
pub bounded : (rec : List ℕ) → Octets rec → record_size ≤ length rec → Bounded (view (decode rec))
unfolding view decode
bounded rec o l =
    record {
      local≤ = field_32 local_at rec o (omega arith);
      remote≤ = field_32 remote_at rec o (omega arith);
      accepted≤ = field_32 accepted_at rec o (omega arith);
      delivered≤ = field_32 delivered_at rec o (omega arith);
    }

-- so a sound record in octets holds an endpoint, that one has the same octets, and the page is the one that goes with it
pub record_holding : (rec page : List ℕ) → record_size ≤ length rec → Octets rec → format.sound rec ≡ true → page_size ≤ length page → paged_for rec page ≡ true
    → Holding format rec page (view (decode rec))
record_holding rec page l o s pl pg =
    let e = decode rec in
    let z = decode_long rec l in
    record {
      is_sound = view-sound e s z;
      bounded = bounded rec o l;
      last = goes_last (view e).local page pl pg;
      paged = (drop page_size page, page_is (view e).local page pl pg);
      lies = (
        drop record_size rec,
        sym (take-append-drop record_size rec)
            ∙ ap (λ (p : List ℕ). p ++ drop record_size rec) (sym (encode-decode rec o l) ∙ ap encode (sym (pack-view e (tidy e s z) (tidy-held e s z)))),
      );
    }

pub fresh-holding : Holding format fresh_record new_page fresh
unfolding now
fresh-holding =
    let f = limited roomy.starts in
    record {
      is_sound = f.is_sound;
      bounded = f.bounded;
      last = omega arith;
      lies = ([], sym (append-nil fresh_record));
      paged = ([], sym (append-nil new_page));
    }

-- 11, 12 and 15 are passed
pub is_ready : {rec page : List ℕ} {e : abstract.Endpoint} → Holding format rec page e → first (record_questions rec page) ≡ 0
unfolding first when
is_ready {rec} {page} k =
    rw (le-leb record_size (length rec) (long format lawful k), le-leb page_size (length page) (page-enough format lawful k), passes format lawful k, keeps format lawful k, goes format lawful k) refl
