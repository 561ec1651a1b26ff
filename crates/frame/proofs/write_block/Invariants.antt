use Rattle.std.proofs.Common.{◌≡◌, take}
use Rattle.octets.specs.Octets.{put}
use Rattle.frame.specs.Layout.{data_block_at}
use Rattle.frame.proofs.write_block.Given as goal

abbrev pub invariant-loop-i : goal.invariant-loop-i
invariant-loop-i l = l.out ≡ put l.initial.out data_block_at (take l.i l.block)
