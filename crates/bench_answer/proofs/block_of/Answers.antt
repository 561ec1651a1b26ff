use Rattle.std.proofs.Common.{ℕ, ◌≡◌, ◌≢◌, ◌+◌, ◌≤◌, List, length, drop, arith, length-take, length-drop}
use native.Mathlib.Nat.{min-le_right}
use Rattle.octets.proofs.Test.{eq_no}
use Rattle.bench_call.specs.Answer.{bench_block_at}
use Rattle.bench_answer.proofs.block_of.Goals as goal

-- the log has all of the block
reaches : (at n : ℕ) (log up : List ℕ) → at ≢ 0 → n ≢ 0 → length (bench_block_at at n log up) ≡ n → at + n ≤ length log
unfolding bench_block_at
reaches at n log up z k h =
    let l = drop at log in
    let t = rw (eq_no at 0 _ _ z) at h in
    omega (arith, t, length-take n l, min-le_right n (length l), length-drop at log, k)

pub overflow_add-result : goal.overflow_add-result
overflow_add-result c =
    let a = c.args in
    omega (arith, reaches a.at a.n a.log.now a.up.now c.if-at-eq0.false c.if-n-eq0.false c.requires)

pub slice_bounds-result-end-2 : goal.slice_bounds-result-end-2
slice_bounds-result-end-2 c =
    let a = c.args in
    omega (arith, reaches a.at a.n a.log.now a.up.now c.if-at-eq0.false c.if-n-eq0.false c.requires)
