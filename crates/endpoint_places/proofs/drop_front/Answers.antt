use Rattle.std.proofs.Common.{◌*◌, ◌-◌, ◌≤◌, sym, length, append-nil, length-drop, length-take, arith}
use native.Mathlib.Nat.{zero-mul, mul-le-mul_right}
use Rattle.octets.specs.Sizes.{queue_size}
use Rattle.endpoint_places.proofs.Places.{moved}
use Rattle.endpoint_places.proofs.drop_front.Goals as goal

pub returns-then-gone-eq0 : goal.returns-then-gone-eq0
returns-then-gone-eq0 c = rw (c.if-gone-eq0.true, zero-mul c.args.width) (sym (append-nil c.args.d.now))

pub returns : goal.returns
returns c =
    let a = c.args in
    let f = a.gone * a.width in
    let k = length a.d.now - f in
    let within : f ≤ queue_size * a.width = mul-le-mul_right a.width c.requires.0 in
    moved f k a.d.now (omega arith) c.copy_within.ensures.after c.clear.ensures (omega arith) (simp (length-take, length-drop) (omega arith))
