use Rattle.std.proofs.Common.{◌∙◌}
use Rattle.std.proofs.Math.Bool.{or_assoc}
use Rattle.octets.specs.Test.{in_range}
use Rattle.hexadecimal.specs.Line.{is_capital, is_digit}
use Rattle.hexadecimal.proofs.is_digit.Goals as goal

pub returns : goal.returns
unfolding is_digit is_capital in_range
returns c = c.is_ascii_hexdigit.ensures.value ∙ or_assoc (in_range 48 57 c.args.c) (is_capital c.args.c) (in_range 97 102 c.args.c)
