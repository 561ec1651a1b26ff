use Rattle.std.proofs.Common.{arith, rules}
use Rattle.line_split.proofs.Lines.{keeps}
use Rattle.line_split.proofs.keep.Goals as goal

pub returns : goal.returns
returns c = (keeps _ _ _ _ _ c.min-fits.ensures (search rules), omega arith)
