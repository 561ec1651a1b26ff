use Rattle.std.proofs.lemmas.Result.{err_from_is_err_and}
use Rattle.octets.specs.Test.{mapped}
use Rattle.frame.specs.Read.{kind_of, after_head, cut_block, read_frame}
use Rattle.frame.proofs.Classes.{no_frame, none_kind, rest_is}
use Rattle.frame.proofs.Reading.{unknown_frame}
use native.Mathlib.Omega.{arith}
use Rattle.frame_read.proofs.read_frame.Goals as goal

pub returns-in_default : goal.returns-in_default
unfolding mapped
returns-in_default c =
    let s = c.args.s.now in
    unknown_frame s (no_frame (kind_of s) (λ r. omega (arith, r, none_kind s (omega (arith, c.in_default.len_below)))))

pub returns-in_err-try_from : goal.returns-in_err-try_from
unfolding mapped kind_of
returns-in_err-try_from c =
    let p = err_from_is_err_and c.from_residual.result c.from_residual.ensures.1 in
    let e = rw c.in_err-try_from.was at c.try_from.ensures in
    rw (p.1, p.2, e.0) (unknown_frame c.args.s.now e.1)

pub returns : goal.returns
unfolding mapped read_frame cut_block kind_of after_head
returns c =
    let e = rw c.in_ok-try_from.was at c.try_from.ensures in
    rw (e, rest_is c.args.s.now) at c.known_frame.ensures
