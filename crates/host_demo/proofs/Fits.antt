-- The frame of an answer has room in its buffer, and its block is there, no longer than a block may be.
use Prim.Native.Nat.{ℕ, ◌≤◌}
use mathlib.Core.Path.{◌≡◌, refl, sym, ap, ◌∙◌}
use native.Mathlib.Omega.{arith}
use mathlib.Core.List.{List}
use lib.ListN.{length}
use Rattle.frame.specs.Read.{cut_block}
use Rattle.octets.proofs.Buffers.{put_fits}
use Rattle.octets.specs.Sizes.{longest_block}
use Rattle.octets.specs.Test.{Outcome, refused, ok, mapped}
use Rattle.octets.specs.Octets.{left}
use Rattle.protocol.specs.Table.{Step}
use Rattle.call_spec.specs.Calls.{Arguments, wire, buffer_after}
use Rattle.call_spec.specs.Answers.{block_of, block_part}
use Rattle.endpoint.specs.declared.Endpoint.{Endpoint}
use Rattle.endpoint.proofs.Packs.{Long}
use Rattle.endpoint_plan.proofs.Short.{up-short}
use Rattle.endpoint_step.specs.declared.StepAnswer.{StepAnswer}
use Rattle.endpoint_plan.specs.Calls.{outcome_of}
use Rattle.endpoint_step.specs.Calls.{step_answer_of, Advances}

sent_fits : (e : Endpoint) (o : Outcome Step) (d : List ℕ) {x : List ℕ} → x ≡ buffer_after d o → length x ≡ length d → (step_answer_of e o).sent ≤ length d
unfolding step_answer_of buffer_after mapped left
sent_fits e (refused n) d h l = omega arith
sent_fits e (ok x) d h l = put_fits d (wire x.sent) h l

block_is : (e : Endpoint) (o : Outcome Step) → length (block_of o) ≡ (step_answer_of e o).block
unfolding step_answer_of block_of
block_is e (refused n) = refl
block_is e (ok x) = refl

module _ (e : Endpoint) (c : Arguments) {page out up page' out' up' : List ℕ} {r : StepAnswer} (a : Advances e page c out up page' out' up' r) where
  pub frame_fits : length out' ≡ length out → r.sent ≤ length out
  frame_fits l = rw a.answer (sent_fits e (outcome_of e page c) out a.octets l)

  pub block-there : length (block_part c.call (cut_block c.octets) up' r.block) ≡ r.block
  block-there = ap (λ (b : List ℕ). length b) a.block ∙ block_is e (outcome_of e page c) ∙ sym (ap (λ (r : StepAnswer). r.block) a.answer)

  pub block_short : Long e → length (block_part c.call (cut_block c.octets) up' r.block) ≤ longest_block
  block_short l = rw a.block (up-short e l page c)
