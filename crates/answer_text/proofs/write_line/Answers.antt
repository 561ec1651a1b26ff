use Rattle.answer_text.proofs.Text.{line_puts}
use Rattle.answer_text.proofs.write_line.Goals as goal

pub returns : goal.returns
returns c = line_puts c.args.s.now c.args.out.now c.requires c.write.ensures c.store8.ensures
