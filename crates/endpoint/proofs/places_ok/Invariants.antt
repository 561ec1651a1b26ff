use Rattle.std.proofs.Common.{◌≡◌}
use mathlib.Core.Bool.{true}
use Rattle.octets.specs.Test.{all_below}
use Rattle.endpoint.specs.Internal.{place_ok}
use Rattle.endpoint.proofs.places_ok.Given as goal

abbrev pub invariant-loop-i : goal.invariant-loop-i
invariant-loop-i l = all_below l.i (place_ok l.filled l.used l.places.lengths.now l.places.blocks.now) ≡ true
