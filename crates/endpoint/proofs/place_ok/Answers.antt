use Rattle.std.proofs.Common.{◌≡◌, refl, arith, ◌+◌, ◌-◌, ◌*◌, get_or}
use borrow.Author.Tests.{eq-eqb, ne_eqb, lt-ltb, le-ltb, le-leb, lt-leb}
use Rattle.octets.specs.Sizes.{longest_block}
use Rattle.octets.specs.Test.{when, zeros}
use Rattle.endpoint.specs.Sound.{unused_at}
use Rattle.endpoint.specs.Internal.{place_ok}
use Rattle.endpoint.proofs.place_ok.Goals as goal

pub returns-then-i-filled : goal.returns-then-i-filled
unfolding place_ok when
returns-then-i-filled c =
    let a = c.args in
    rw (eq-eqb (get_or a.places.lengths.now a.i 0) 0 (omega arith), lt-leb a.filled a.i (omega arith)) refl

pub returns-then-n-eq0 : goal.returns-then-n-eq0
unfolding place_ok when unused_at
returns-then-n-eq0 c =
    let a = c.args in
    let n = get_or a.places.lengths.now a.i 0 in
    let at = a.i * longest_block in
    let x : longest_block - n ≡ at + longest_block - at = omega arith in
    let y : at + n ≡ at = omega arith in
    rw (eq-eqb n 0 (omega arith), le-leb a.filled a.i (omega arith), x, y) c.is_clear.ensures

pub returns-then-used-i : goal.returns-then-used-i
unfolding place_ok when
returns-then-used-i c =
    let a = c.args in
    rw (ne_eqb (get_or a.places.lengths.now a.i 0) 0 (λ e. omega arith), le-ltb a.i a.used (omega arith)) refl

pub returns-then-n-gt-LONGEST_BLOCK : goal.returns-then-n-gt-LONGEST_BLOCK
unfolding place_ok when
returns-then-n-gt-LONGEST_BLOCK c =
    let a = c.args in
    let n = get_or a.places.lengths.now a.i 0 in
    rw (ne_eqb n 0 (λ e. omega arith), lt-ltb a.i a.used (omega arith), lt-leb n longest_block (omega arith)) refl

pub returns-then-n-eq-LONGEST_BLOCK : goal.returns-then-n-eq-LONGEST_BLOCK
unfolding place_ok when unused_at zeros
returns-then-n-eq-LONGEST_BLOCK c =
    let a = c.args in
    let n = get_or a.places.lengths.now a.i 0 in
    let x : longest_block - n ≡ 0 = omega arith in
    rw (ne_eqb n 0 (λ e. omega arith), lt-ltb a.i a.used (omega arith), le-leb n longest_block (omega arith), x) refl

pub returns : goal.returns
unfolding place_ok when unused_at
returns c =
    let a = c.args in
    let n = get_or a.places.lengths.now a.i 0 in
    rw (ne_eqb n 0 (λ e. omega arith), lt-ltb a.i a.used (omega arith), le-leb n longest_block (omega arith)) c.rest_ok.ensures
