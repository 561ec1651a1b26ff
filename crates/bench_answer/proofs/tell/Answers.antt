use Rattle.std.proofs.Common.{take, arith, rules, length-take}
use Rattle.bench_answer.proofs.Leads.{text_short, tells}
use Rattle.bench_answer.proofs.tell.Goals as goal

pub overflow_add-result : goal.overflow_add-result
overflow_add-result c =
    let a = c.args in
    let sent = take a.r.sent a.frame.now in
    let m = length-take a.r.sent a.frame.now in
    omega (arith, c.write_text-n.ensures.count, text_short a.r.status a.block.now sent c.requires.1.0 (omega (arith, m, c.requires.1.1.0)))

pub returns : goal.returns
returns c = tells c.args.r.end c.args.out.now _ c.requires.0 c.write_text-n.ensures (search rules)
