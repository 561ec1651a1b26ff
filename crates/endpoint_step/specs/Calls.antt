-- The step by value: what it answers, and what it leaves of the page and in the buffers for a frame and for a block.
use Rattle.std.specs.Prelude.{ℕ, ◌≡◌, List, length}
use Rattle.octets.specs.Test.{Outcome, refused, ok}
use Rattle.frame.specs.Read.{cut_block}
use Rattle.call_spec.specs.Calls.{Arguments, wire, buffer_after, page_after}
use Rattle.protocol.specs.Table.{notice_number, Step}
use Rattle.call_spec.specs.Answers.{block_in, block_of, block_part, block_buffer_after}
use Rattle.endpoint.specs.declared.Endpoint.{Endpoint}
use Rattle.endpoint_step.specs.declared.StepAnswer.{StepAnswer}
use Rattle.endpoint.specs.View.{pack}
use Rattle.endpoint_plan.specs.Calls.{outcome_of}

-- what it answers: a refusal leaves the record, with no notice, no frame and no block
unfoldable pub step_answer_of : Endpoint → Outcome Step → StepAnswer
step_answer_of e (refused n) = record { number = n; endpoint = e; notice = 0; sent = 0; block = 0 }
step_answer_of e (ok x) =
    record {
      number = 0;
      endpoint = pack x.endpoint;
      notice = notice_number x.notice;
      sent = length (wire x.sent);
      block = length (block_in x.notice);
    }

-- What a call of e answers, and what it leaves of the page and of the buffers out and up; where the block handed up stands.
pub record Advances (e : Endpoint) (page : List ℕ) (c : Arguments) (out up page' out' up' : List ℕ) (r : StepAnswer) : Type 0 where
  pub answer : r ≡ step_answer_of e (outcome_of e page c)
  pub page_octets : page' ≡ page_after page (outcome_of e page c)
  pub octets : out' ≡ buffer_after out (outcome_of e page c)
  pub block_octets : up' ≡ block_buffer_after c.call up (outcome_of e page c)
  pub block : block_part c.call (cut_block c.octets) up' r.block ≡ block_of (outcome_of e page c)
