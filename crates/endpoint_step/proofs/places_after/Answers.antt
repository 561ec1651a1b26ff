use Rattle.std.proofs.Common.{rules, ◌≡◌, ℕ, length, sym, ap, replicate}
use Rattle.endpoint_places.specs.Internal.{places_after}
use Rattle.endpoint_step.proofs.places_after.Goals as goal

pub returns-in-Clear : goal.returns-in-Clear
unfolding places_after
returns-in-Clear g c =
    let l : length c.args.d ≡ g.row.N = search rules in
    rw c.in-Clear.is (ap (λ (n : ℕ). replicate n 0) (sym l))
