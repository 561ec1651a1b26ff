use Rattle.std.proofs.Common.{ℕ, sym, ap, ◌∙◌}
use Rattle.protocol.specs.Restart.{restarted}
use Rattle.protocol.specs.Table.{notice_number}
use Rattle.call_spec.specs.Calls.{wire}
use Rattle.call_spec.specs.Answers.{block_in}
use Rattle.call_spec.proofs.Restarting.{restarts-short, restarts-wrong, restarts}
use Rattle.endpoint.specs.View.{pack}
use Rattle.endpoint_step.specs.Calls.{step_answer_of}
use Rattle.endpoint_step.proofs.restart.Goals as goal

pub returns-then-page-lt-PAGE_SIZE : goal.returns-then-page-lt-PAGE_SIZE
returns-then-page-lt-PAGE_SIZE c = rw (restarts-short c.args.page.now c.if-page-lt-PAGE_SIZE.true) c.unchanged.ensures

pub returns-then-not-is_run : goal.returns-then-not-is_run
returns-then-not-is_run c = rw (restarts-wrong c.args.page.now c.if-page-lt-PAGE_SIZE.false (sym c.if-not-is_run.ensures)) c.unchanged-then-not-is_run.ensures

pub returns : goal.returns
unfolding step_answer_of notice_number wire block_in
returns c =
    let run = sym c.if-not-is_run.ensures in
    let e = c.restarted.ensures ∙ ap (λ (n : ℕ). pack (restarted n)) (c.count_used.ensures.1 run) in
    rw (restarts c.args.page.now c.if-page-lt-PAGE_SIZE.false run) (λ i. record { number = 0; endpoint = e i; notice = 0; sent = 0; block = 0 })
