-- What a call of an end by value comes to.
use Rattle.std.specs.Prelude.{List, ℕ}
use Rattle.octets.specs.Test.{Outcome}
use Rattle.protocol.specs.Table.{Step}
use Rattle.call_spec.specs.Calls.{Arguments, asked}
use Rattle.endpoint.specs.declared.Endpoint.{Endpoint}
use Rattle.endpoint.specs.View.{view}
use Rattle.endpoint.specs.Sound.{sound}

-- of the endpoint e with this page
unfoldable pub outcome_of : Endpoint → List ℕ → Arguments → Outcome Step
outcome_of e page c = asked (sound e) page (view e) c
