use Rattle.std.proofs.Common.{arith, rules, refl}
use Rattle.line_io.proofs.Taken.{takes-piece, takes-fresh, takes-kept}
use Rattle.line_io.proofs.Buffers.take.Goals as goal

-- a piece of a line
pub returns-then-stop-p-clause-taken : goal.returns-then-stop-p-clause-taken
returns-then-stop-p-clause-taken c =
    let f = c.requires.place_fits in
    takes-piece c.args.self.now.input c.args.self.now.line c.args.p _ f.1 (omega (arith, f.0.read))
    (search rules) f.0.kept c.line_length.ensures.0 c.if-stop-p.true c.keep-kept.ensures.0 c.keep-kept.ensures.1 (omega arith) (omega arith)

-- a line of which nothing was held
pub returns-then-p-eq0-clause-taken : goal.returns-then-p-eq0-clause-taken
returns-then-p-eq0-clause-taken c =
    let f = c.requires.place_fits in
    takes-fresh c.args.self.now.input c.args.self.now.line c.args.p _ f.1 (omega (arith, f.0.read))
    (search rules) f.0.kept c.line_length.ensures.0 c.if-stop-p.false c.line_length.ensures.1 c.if-p-eq0.true refl refl refl

-- the rest of a line
pub returns-clause-taken : goal.returns-clause-taken
returns-clause-taken c =
    let f = c.requires.place_fits in
    takes-kept c.args.self.now.input c.args.self.now.line c.args.p _ f.1 (omega (arith, f.0.read))
    (search rules) f.0.kept c.line_length.ensures.0 c.if-stop-p.false c.line_length.ensures.1 c.if-p-eq0.false c.keep-kept-2.ensures.0
    c.keep-kept-2.ensures.1 refl (omega arith) (omega arith)
