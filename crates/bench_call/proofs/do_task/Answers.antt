use Rattle.std.proofs.Common.{◌≡◌, refl, Option, None, Some, rules}
use Rattle.frame.specs.Read.{cut_block}
use Rattle.call_spec.specs.declared.Call.{Call}
use Rattle.call_spec.specs.declared.Call.TheVariants.{Receive}
use Rattle.link.proofs.Answers.{turned_down, page_unchanged}
use Rattle.bench_call.specs.Internal.{call_by, task_outcome}
use Rattle.bench_call.proofs.Restarts.{restarts}
use Rattle.bench_call.proofs.do_task.Goals as goal

pub returns-in-Ok-Some : goal.returns-in-Ok-Some
unfolding call_by task_outcome
returns-in-Ok-Some c = let a = c.in-Ok-Some in let e : a.field-0 ≡ Some a.call = search rules in rw (a.is, e) c.call_end.ensures

pub returns-in-Ok-None : goal.returns-in-Ok-None
unfolding call_by task_outcome
returns-in-Ok-None c =
    let a = c.args in
    let e : ◌≡◌ {A = Option Call} c.in-Ok-None.field-0 None = search rules in
    rw (c.in-Ok-None.is, e) (restarts a.rec.now a.page.now a.count (cut_block a.s.now) a.out.now a.up.now c.restart.ensures)

pub returns-in-Err : goal.returns-in-Err
unfolding call_by task_outcome
returns-in-Err c =
    let a = c.args in
    rw c.in-Err.is (turned_down refl Receive a.rec.now (cut_block a.s.now) a.out.now a.up.now c.refuse.ensures, page_unchanged refl)
