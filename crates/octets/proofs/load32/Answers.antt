use Rattle.std.proofs.Common.{arith}
use Rattle.octets.proofs.Octets.{field_four}
use Rattle.octets.proofs.load32.Goals as goal

pub returns : goal.returns
returns c = omega (arith, c.from_be_bytes.ensures, field_four c.args.at c.args.s.now c.requires)
