use Rattle.std.proofs.Common.{sym, arith}
use Rattle.line_answer.proofs.Standing.{standing-is}
use Rattle.line_answer.proofs.stand.Goals as goal

pub write_answer-requires : goal.write_answer-requires
write_answer-requires c = (omega arith, rw (c.stands.ensures, sym (standing-is c.args.rec.now)) c.requires.1)

pub returns : goal.returns
returns c = rw (standing-is c.args.rec.now, sym c.stands.ensures) c.write_answer.ensures
