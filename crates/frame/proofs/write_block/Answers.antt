use Rattle.std.proofs.Common.{arith}
use Rattle.octets.proofs.Octets.{put-none}
use Rattle.frame.specs.Layout.{data_block_at}
use Rattle.frame.proofs.Writing.{copy_more}
use Rattle.frame.proofs.write_block.Goals as goal

pub loop-i-init : goal.loop-i-init
loop-i-init c = put-none c.args.out.now data_block_at

pub loop-i-preserved : goal.loop-i-preserved
loop-i-preserved c =
    rw c.loop-i.invariant (copy_more c.args.out.now data_block_at c.args.block.now c.loop-i.i (omega arith) (omega arith))
