-- A restart on a new page leaves a fresh record, which fills a buffer of its size.
use Prim.Native.Nat.{ℕ, ◌+◌}
use mathlib.Core.Path.{◌≡◌, refl, ap, ◌∙◌}
use mathlib.Core.List.{List, append-nil}
use native.Mathlib.Omega.{arith}
use borrow.Author.Tests.{le-leb}
use lib.ListN.{length, replicate, drop_of_length-le}
use Rattle.octets.specs.Sizes.{page_size}
use Rattle.octets.specs.Test.{when, first, ok, refusing, mapped}
use Rattle.octets.specs.Octets.{put, left}
use Rattle.page.specs.Page.{unused, page_of, new_page}
use Rattle.protocol.specs.Endpoint.{fresh}
use Rattle.protocol.specs.Table.{none, quiet}
use Rattle.call_spec.specs.Calls.{restarted_in, record_after}
use Rattle.call_spec.specs.Claim.{lent}
use Rattle.call_spec.proofs.Holding.{long}
use Rattle.call_spec.proofs.Lift.{restart-comes}
use Rattle.endpoint.specs.Record.{record_size}
use Rattle.lent_record.specs.declared.Answer.{Answer}
use Rattle.lent_record.specs.Record.{format}
use Rattle.lent_record.specs.Told.{fresh_record}
use Rattle.lent_record.specs.Claim.{RestartsFresh}
use Rattle.lent_record.proofs.Lawful.{lawful}
use Rattle.lent_record.proofs.Holds.{fresh-holding}

comes-fresh : (rec : List ℕ) → length rec ≡ record_size → restarted_in format rec new_page ≡ ok (quiet fresh none)
unfolding restarted_in refusing first when
comes-fresh rec l =
    rw (le-leb record_size (length rec) (omega arith)) (restart-comes format lawful fresh fresh-holding.paged fresh-holding.last)

fresh_is : (rec : List ℕ) → length rec ≡ record_size → record_after format rec (restarted_in format rec new_page) ≡ fresh_record
unfolding record_after mapped left put
fresh_is rec l =
    rw (comes-fresh rec l, drop_of_length-le rec {i = 0 + length fresh_record} (omega (arith, long format lawful fresh-holding)))
    (append-nil fresh_record)

pub end_fresh : {rec page rec' : List ℕ} {r : Answer} → RestartsFresh rec page rec' r
end_fresh {rec} w l e =
    let p = w.end ∙ ap (λ (x : List ℕ). record_after format rec (restarted_in format rec x)) e ∙ fresh_is rec l in
    λ i. lent (p i) (e i)

-- an array of FF is a new page
pub all-unused : replicate page_size unused ≡ new_page
unfolding page_of
all-unused = refl
