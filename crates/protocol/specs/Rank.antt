-- How far an end can come down by deliveries that send nothing: what makes a walk through the book end (document 02, N7: testers step through it).
use Rattle.std.specs.Prelude.{ℕ, ◌+◌, ◌≤◌, ◌<◌}
use Rattle.octets.specs.Test.{if_eq}
use Rattle.frame.specs.Frame.{Frame}
use Rattle.protocol.specs.Endpoint.{closed, listening, established, closing, Endpoint, waiting}
use Rattle.protocol.specs.Table.{Notice, nothing, frame, Step, step}

-- A call, or its answer, is opened or given up; an open end lets its blocks go, one after the other, and is closed; a closing one is closed.
unfoldable pub rank : Endpoint → ℕ
rank e =
    if_eq e.state closed 0
    (if_eq e.state listening 0
    (if_eq e.state closing 1
    (if_eq e.state established (1 + waiting e)
    2)))

-- A delivery that sends lifts its end by no more than this: a listening end answers.
abbrev pub lift : ℕ
lift = 2

-- What a delivery makes of the end e: it leaves it, or it sends a frame, or it brings it down.
pub data Descends (e : Endpoint) : Step → Type 0 where
  stays : {n : Notice} → Descends e (record { endpoint = e; notice = n; sent = nothing })
  sends : {x : Endpoint} {n : Notice} {g : Frame} → rank x ≤ rank e + lift → Descends e (record { endpoint = x; notice = n; sent = frame g })
  falls : {x : Endpoint} {n : Notice} → rank x < rank e → Descends e (record { endpoint = x; notice = n; sent = nothing })

-- The claim, of every delivery to every endpoint.
abbrev pub EachDescends : Type 0
EachDescends = (e : Endpoint) (f : Frame) → Descends e (step e f)
