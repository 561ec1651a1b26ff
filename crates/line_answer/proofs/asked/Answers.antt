use Rattle.std.proofs.Common.{◌≡◌, refl, sym, ap, length, replicate, length-take-le, arith, rules}
use Rattle.std.proofs.lemmas.Result.{err_from_is_err_and}
use Rattle.octets.specs.Octets.{Octets}
use Rattle.octets.specs.Test.{first}
use Rattle.lent_record.specs.Record.{record_questions}
use Rattle.octets.specs.Sizes.{longest_frame}
use Rattle.octets.proofs.Outcomes.{refusal_some}
use Rattle.hexadecimal.proofs.Asked.{passed, fits, reads}
use Rattle.line_answer.proofs.Lines.{asked_of, unready, asks-standing, line-asks, declined}
use Rattle.line_answer.proofs.Standing.{standing-long, stands-there}
use Rattle.line_answer.proofs.asked.Goals as goal

-- 11, 12 or 15 of the record and its page is not passed
pub returns-in_err-ready : goal.returns-in_err-ready
returns-in_err-ready c =
    let p = err_from_is_err_and c.from_residual.result c.from_residual.ensures.1 in
    rw (p.1, p.2) (unready c.args.rec.now c.args.page.now c.args.line.now c.in_err-ready.ensures (refusal_some c.in_err-ready.field-0.0), (refl, (refl, refl)))

-- the empty line
pub stand-requires : goal.stand-requires
stand-requires c =
    let y : first (record_questions c.args.rec.now c.args.page.now) ≡ 0 = search rules in
    ((asked_of c.args.rec.now c.args.page.now y).long, omega (arith, standing-long c.args.rec.now, c.requires))

pub returns-then-is_empty : goal.returns-then-is_empty
unfolding Octets
returns-then-is_empty c =
    let a = c.args in
    let y : first (record_questions a.rec.now a.page.now) ≡ 0 = search rules in
    rw (asks-standing a.rec.now a.page.now a.line.now y (search rules)) (stands-there a.rec.now a.page.now a.out.now (search rules) y c.stand.ensures)

-- 1 or 2 of the line is not passed
pub returns-in_err-n : goal.returns-in_err-n
returns-in_err-n c =
    let a = c.args in
    let p = err_from_is_err_and c.from_residual-in_err-n.result c.from_residual-in_err-n.ensures.1 in
    let y : first (record_questions a.rec.now a.page.now) ≡ 0 = search rules in
    rw (p.1, p.2)
    (declined a.rec.now a.page.now a.line.now y (search rules) (replicate longest_frame 0) refl (sym c.in_err-n.ensures.0), (refl, (refl, refl)))

-- the octets of the line
pub slice_bounds-s-end : goal.slice_bounds-s-end
slice_bounds-s-end c =
    let r = passed c.args.line.now (replicate longest_frame 0) refl _ _ (sym c.in_ok-n.ensures.0) c.in_ok-n.ensures.1 in
    omega (arith, fits c.args.line.now (replicate longest_frame 0) refl r (search rules))

pub slice_bounds-ask-end : goal.slice_bounds-ask-end
slice_bounds-ask-end c =
    let r = passed c.args.line.now (replicate longest_frame 0) refl _ _ (sym c.in_ok-n.ensures.0) c.in_ok-n.ensures.1 in
    sym (length-take-le _ _ (omega (arith, fits c.args.line.now (replicate longest_frame 0) refl r (search rules))))

pub ask-requires : goal.ask-requires
ask-requires c =
    let r = passed c.args.line.now (replicate longest_frame 0) refl _ _ (sym c.in_ok-n.ensures.0) c.in_ok-n.ensures.1 in (
      search rules,
      (
        omega (arith, fits c.args.line.now (replicate longest_frame 0) refl r (search rules), r.count, ap length (reads c.args.line.now (replicate longest_frame 0) refl r)),
        c.requires,
      ),
    )

pub returns : goal.returns
returns c =
    let a = c.args in
    let r = passed a.line.now (replicate longest_frame 0) refl _ _ (sym c.in_ok-n.ensures.0) c.in_ok-n.ensures.1 in
    let y : first (record_questions a.rec.now a.page.now) ≡ 0 = search rules in
    rw (line-asks a.rec.now a.page.now a.line.now y r.all_yes) (rw (reads a.line.now (replicate longest_frame 0) refl r) at c.ask.ensures)
