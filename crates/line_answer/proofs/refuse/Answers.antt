use Rattle.std.proofs.Common.{[], refl, arith}
use Rattle.octets.specs.Refusal.{refusal_number}
use Rattle.answer_text.proofs.Text.{length_told, text-none}
use Rattle.line_answer.proofs.Ends.{tells_refusal}
use Rattle.line_answer.proofs.refuse.Goals as goal

pub write_answer-requires : goal.write_answer-requires
write_answer-requires c = (omega arith, omega (arith, length_told c.decline-a.result.status, c.requires))

pub returns : goal.returns
returns c =
    tells_refusal c.args.rec.now c.args.out.now (refusal_number c.args.refusal) c.decline-a.ensures
    (text-none _ [] [] c.args.out.now refl c.write_answer.ensures)
