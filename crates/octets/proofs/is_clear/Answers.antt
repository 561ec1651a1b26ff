use Rattle.std.proofs.Common.{rules, arith, ◌≡◌, length}
use lib.Seq.{take-length}
use Rattle.octets.specs.Test.{zeros}
use Rattle.octets.proofs.Each.{bits_more}
use Rattle.octets.proofs.is_clear.Goals as goal

pub loop-x-init : goal.loop-x-init
unfolding zeros
loop-x-init c = search rules

pub loop-x-preserved : goal.loop-x-preserved
loop-x-preserved c = bits_more c.args.s.now c.loop-x.x-index (omega arith) c.loop-x.bits c.loop-x.invariant

pub returns : goal.returns
returns c =
    let e : c.loop-x.x-index ≡ length c.args.s.now = omega arith in
    rw (e, take-length) at c.loop-x.invariant
