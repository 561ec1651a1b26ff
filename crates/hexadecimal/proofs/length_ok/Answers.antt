use Rattle.std.proofs.Common.{refl}
use Rattle.octets.specs.Test.{in_range}
use Rattle.hexadecimal.specs.Line.{length_ok}
use Rattle.hexadecimal.proofs.length_ok.Goals as goal

pub returns : goal.returns
unfolding length_ok in_range
returns c = refl
