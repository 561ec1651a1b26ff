-- What the stores of a call by value leave, beside the page. No entry point's contract needs this.
use Rattle.std.specs.Prelude.{◌≡◌, List, ℕ}
use Rattle.octets.specs.Test.{Outcome}
use Rattle.frame.specs.Frame.{Block}
use Rattle.protocol.specs.Table.{Step}
use Rattle.call_spec.specs.declared.Call.{Call}
use Rattle.call_spec.specs.Calls.{buffer_after}
use Rattle.call_spec.specs.Answers.{block_of, block_part, block_buffer_after}
use Rattle.endpoint.specs.declared.Endpoint.{Endpoint}
use Rattle.endpoint_step.specs.declared.StepAnswer.{StepAnswer}
use Rattle.endpoint_step.specs.Calls.{step_answer_of}

-- of a call that comes to o, whose message has the block b
pub record Finishes (c : Call) (e : Endpoint) (b : Block) (o : Outcome Step) (out up out' up' : List ℕ) (r : StepAnswer) : Type 0 where
  pub answer : r ≡ step_answer_of e o
  pub octets : out' ≡ buffer_after out o
  pub block_octets : up' ≡ block_buffer_after c up o
  pub block : block_part c b up' r.block ≡ block_of o
