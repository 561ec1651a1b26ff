use Rattle.line_answer.proofs.Ends.{refuses}
use Rattle.line_answer.proofs.answer.Goals as goal

pub returns-in-Err : goal.returns-in-Err
returns-in-Err c =
    let e = c.in-Err.ensures in
    rw (e.1.0, e.1.1.0) (refuses e.0 c.args.rec.now c.args.page.now c.args.out.now (rw (e.1.0, e.1.1.1) at c.refuse.ensures))
