use Rattle.std.proofs.Common.{refl}
use Rattle.octets.specs.Octets.{padded}
use Rattle.protocol.specs.Endpoint.{lengths_of}
use Rattle.endpoint.specs.View.{pack, places_of}
use Rattle.endpoint.proofs.Endpoint.fresh.Goals as goal

pub returns : goal.returns
unfolding pack padded lengths_of places_of
returns c = refl
