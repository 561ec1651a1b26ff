use mathlib.Core.Logic.{◌≢◌}
use Rattle.frame.specs.Frame.{DATA}
use mathlib.Core.Path.{sym, ap, ◌∙◌}
use lib.ListN.{length}
use Rattle.octets.specs.Sizes.{longest_block}
use Rattle.octets.proofs.Test.{within, ladder}
use Rattle.frame.specs.Read.{count_ok}
use Rattle.frame.specs.Answer.{kind_number}
use Rattle.frame.specs.declared.Kind.TheVariants.{Data}
use Rattle.frame.proofs.Classes.{kind_is_frame, same_kind}
use Rattle.codec.specs.Calls.{numbers_of}
use Rattle.codec.proofs.Writes.{refuses, fills, bad_count, counted, uncounted, no_block}
use native.Mathlib.Omega.{arith}
use Rattle.codec.proofs.codec_write.Goals as goal

pub returns-then-out-lt-LONGEST_FRAME : goal.returns-then-out-lt-LONGEST_FRAME
returns-then-out-lt-LONGEST_FRAME c = rw c.number.ensures.0 (refuses _ _ _ 10 (search ladder) _)

pub returns-in_default : goal.returns-in_default
returns-in_default c =
    let e = (rw c.in_default.is at c.try_from.ensures).1 in
    rw c.number-in_default.ensures.0 (refuses _ _ _ 2 (search (ladder, e)) _)

pub returns-then-not-count_ok : goal.returns-then-not-count_ok
returns-then-not-count_ok c =
    let a = c.args in
    let k = rw c.in-Ok.is at c.try_from.ensures in
    let d = sym k ∙ ap kind_number c.in-Data.is in
    let n = sym c.count_ok.ensures ∙ c.if-not-count_ok.true in
    rw c.number-then-not-count_ok.ensures.0
    (refuses _ _ _ 4 (bad_count (numbers_of a.kind a.sender a.quoted a.number) a.block.now a.out.now (omega arith) (rw k at (kind_is_frame c.in-Ok.kind)) d n) _)

pub write-requires : goal.write-requires
unfolding count_ok
write-requires c = (omega arith, (within 1 longest_block (length c.args.block.now) (sym c.count_ok.ensures ∙ c.if-not-count_ok.false)).1)

pub returns-else-not-count_ok : goal.returns-else-not-count_ok
returns-else-not-count_ok c =
    let a = c.args in
    let k = rw c.in-Ok.is at c.try_from.ensures in
    let d = sym k ∙ ap kind_number c.in-Data.is in
    let y = sym c.count_ok.ensures ∙ c.if-not-count_ok.false in
    let h = numbers_of a.kind a.sender a.quoted a.number in
    fills h a.block.now a.out.now (counted h a.block.now a.out.now (omega arith) (rw k at (kind_is_frame c.in-Ok.kind)) d y) a.length.now (rw k at c.write.ensures)

pub returns-in_default-kind : goal.returns-in_default-kind
returns-in_default-kind c =
    let a = c.args in
    let k = rw c.in-Ok.is at c.try_from.ensures in
    let h = numbers_of a.kind a.sender a.quoted a.number in
    let n : a.kind ≢ DATA = λ e. c.in_default-kind.not-Data (same_kind c.in-Ok.kind Data (k ∙ e)) in
    fills h a.block.now a.out.now (uncounted h a.block.now a.out.now (omega arith) (rw k at (kind_is_frame c.in-Ok.kind)) n) a.length.now
    (rw (k, ← no_block h a.block.now n) at c.write-in_default-kind.ensures)
