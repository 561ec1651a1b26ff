use Rattle.std.proofs.Common.{arith, sym, ◌<◌, ◌/◌, length}
use Rattle.octets.specs.Sizes.{longest_frame}
use Rattle.octets.proofs.Test.{ladder}
use Rattle.hexadecimal.proofs.Asked.{refuses, decodes}
use Rattle.hexadecimal.proofs.Digits.{right_length, length-unhex}
use Rattle.hexadecimal.proofs.read.Goals as goal

pub returns-then-out-lt-LONGEST_FRAME : goal.returns-then-out-lt-LONGEST_FRAME
returns-then-out-lt-LONGEST_FRAME c =
    let short : length c.args.out.now < longest_frame = omega arith in
    refuses _ _ 10 (search ladder)

pub returns-then-not-length_ok : goal.returns-then-not-length_ok
returns-then-not-length_ok c = refuses _ _ 0 (search ladder)

pub returns-then-not-all_digits : goal.returns-then-not-all_digits
returns-then-not-all_digits c = refuses _ _ 1 (search ladder)

pub decode-requires : goal.decode-requires
decode-requires c =
    let r = right_length (length c.args.line.now) (search ladder) in
    (search ladder, (r.even, omega (arith, r.most)))

pub returns : goal.returns
returns c =
    let t = c.args.line.now in
    let r = right_length (length t) (search ladder) in
    decodes _ _ (search ladder) (sym (length-unhex (length t / 2) t (omega (arith, r.even)))) c.decode.ensures
