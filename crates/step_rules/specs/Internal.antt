-- What it means that a row is the one of the step table.
use Rattle.std.specs.Prelude.{◌≡◌, List, length}
use Rattle.frame.specs.Frame.{Block, Frame}
use Rattle.frame.specs.declared.Header.{Header}
use Rattle.frame.specs.Answer.{frame_of}
use Rattle.protocol.specs.Endpoint.{Endpoint}
use Rattle.protocol.specs.declared.Rule.{Rule}
use Rattle.step_rules.specs.declared.Numbers.{Numbers}

-- an endpoint of these numbers, with its waiting blocks and its held ones
abbrev pub holding : Numbers → List Block → List Block → Endpoint
holding e q s =
    record { state = e.state; local = e.local; remote = e.remote; accepted = e.accepted; delivered = e.delivered; queue = q; held = s }

-- r is what the rows say, of every endpoint and every frame of these numbers
abbrev pub Chosen : (Endpoint → Frame → Rule) → Numbers → Header → Rule → Type 0
Chosen rows e f r = (q s : List Block) (b : Block) → length q ≡ e.waiting → r ≡ rows (holding e q s) (frame_of f b)
