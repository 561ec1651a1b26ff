use Rattle.std.proofs.Common.{arith, sym}
use Rattle.page.proofs.Laws.{stays, reserved_on}
use Rattle.page.proofs.Scan.{keeps, stores}
use Rattle.page.proofs.reserve.Goals as goal

pub returns-then-local-eq0 : goal.returns-then-local-eq0
returns-then-local-eq0 c =
    let a = c.args in
    reserved_on a.local a.page.now c.requires.0 c.requires.1 (sym (stays a.local a.page.now (omega arith)))

pub returns-then-page-at-eq-USED : goal.returns-then-page-at-eq-USED
returns-then-page-at-eq-USED c =
    let a = c.args in
    reserved_on a.local a.page.now c.requires.0 c.requires.1
    (keeps a.page.now c.requires.0.0 a.local _ c.if-page-at-eq-USED.true (omega (arith, c.requires.1)) (omega (arith, c.requires.1)) (omega arith))

pub returns : goal.returns
returns c =
    let a = c.args in
    reserved_on a.local a.page.now c.requires.0 c.requires.1
    (stores a.page.now c.requires.0.0 a.local _ c.if-page-at-eq-USED.false (omega (arith, c.requires.1)) (omega (arith, c.requires.1)) (omega arith))
