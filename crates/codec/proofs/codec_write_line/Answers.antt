use Prim.Native.Nat.{◌*◌}
use mathlib.Core.Path.{refl}
use borrow.Author.Tests.{le-leb, lt-leb}
use lib.ListN.{length}
use Rattle.octets.specs.Test.{first, when, outcome, number_of}
use Rattle.octets.specs.Octets.{left}
use Rattle.codec.specs.Calls.{write_line}
use native.Mathlib.Omega.{arith}
use Rattle.codec.proofs.codec_write_line.Goals as goal

pub returns-then-out-s : goal.returns-then-out-s
unfolding write_line first when outcome number_of left
returns-then-out-s c = rw (lt-leb (2 * length c.args.s.now) (length c.args.out.now) (omega arith)) (c.number.ensures.0, refl)

pub returns : goal.returns
unfolding write_line first when outcome number_of left
returns c = rw (le-leb (2 * length c.args.s.now) (length c.args.out.now) (omega arith)) (refl, c.write.ensures)
