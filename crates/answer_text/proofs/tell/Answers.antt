use Rattle.std.proofs.Common.{arith, rules}
use Rattle.answer_text.proofs.Text.{numbers-put, told_none, told_some}
use Rattle.answer_text.proofs.tell.Goals as goal

pub returns-then-is_empty : goal.returns-then-is_empty
returns-then-is_empty c =
    let numbers = numbers-put c.args.t c.args.out.now (search rules) (search rules) (omega arith) (search rules) c.store8.ensures c.store8-2.ensures
    c.store8-3.ensures c.store32.ensures c.store32-2.ensures in
    told_none c.args.t c.args.block.now c.args.out.now (search rules) numbers

pub returns : goal.returns
returns c =
    let numbers = numbers-put c.args.t c.args.out.now (search rules) (search rules) (omega arith) (search rules) c.store8.ensures c.store8-2.ensures
    c.store8-3.ensures c.store32.ensures c.store32-2.ensures in
    told_some c.args.t c.args.block.now c.args.out.now (search rules) c.requires.0 c.requires.1 numbers c.store8-4.ensures c.copy.ensures
