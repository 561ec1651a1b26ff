use Rattle.std.proofs.Common.{rules, arith, ◌≤◌, get_or}
use lib.Bits.{and_le_l}
use Rattle.page.specs.Page.{unused, only}
use Rattle.page.proofs.Scan.{bits_more}
use Rattle.page.proofs.is_unused.Goals as goal

pub loop-x-preserved : goal.loop-x-preserved
loop-x-preserved c =
    let s = c.args.s.now in
    let k : get_or s c.loop-x.x-index 0 ≤ unused = omega (arith, c.type_inv.s c.loop-x.x-index) in (
      omega (arith, and_le_l c.loop-x.bits (get_or s c.loop-x.x-index 0)),
      bits_more s c.loop-x.x-index (omega arith) k c.loop-x.bits (omega arith) c.loop-x.invariant.1,
    )

pub loop-x-init : goal.loop-x-init
unfolding only
loop-x-init c = search rules
