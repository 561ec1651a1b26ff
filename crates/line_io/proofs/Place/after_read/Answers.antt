use Rattle.std.proofs.Common.{refl, arith}
use Rattle.line_io.proofs.Steps.{some_held}
use Rattle.line_io.proofs.Place.after_read.Goals as goal

-- the end of the input: what is held is a line if it has a character
pub returns : goal.returns
returns c =
    record {
      at = refl;
      end = refl;
      kept = refl;
      filled = refl;
      begins = refl;
      stops = refl;
      more = λ h. absurd (h (omega arith));
      over = λ _. (some_held c.args.self.kept, refl);
    }
