use Rattle.std.proofs.Common.{ℕ, ◌≡◌, refl, ◌∙◌, arith, ◌+◌, ◌-◌, ◌<◌, List, length, take, drop, get_or, length-drop, length-take}
use mathlib.Core.Bool.{◌&&◌, ◌||◌}
use native.Mathlib.Nat.{zero-sub}
use lib.Dec.{ltb, eqb}
use lib.Seq.{get_or-drop, get_or-take}
use borrow.Author.Tests.{lt-ltb, le-ltb}
use Rattle.octets.specs.Sizes.{longest_block}
use Rattle.octets.specs.Test.{zeros}
use Rattle.octets.proofs.Each.{zeros-more}
use Rattle.endpoint.proofs.Sounds.{by_lt}
use Rattle.endpoint.proofs.rest_ok.Goals as goal

-- one octet more, which counts from n on
rest_more : (b : List ℕ) (at n i : ℕ) → at + i < length b
    → (zeros (take (i - n) (drop (at + n) b)) && (ltb i n || eqb (get_or b (at + i) 0) 0)) ≡ zeros (take (i + 1 - n) (drop (at + n) b))
unfolding zeros
rest_more b at n i h =
    by_lt i n
    (λ m.
    let x : i - n ≡ 0 = omega arith in
    let y : i + 1 - n ≡ 0 = omega arith in
    rw (x, y, lt-ltb i n m) refl)
    (λ m.
    let x : i + 1 - n ≡ i - n + 1 = omega arith in
    let y : at + n + (i - n) ≡ at + i = omega arith in
    let more = zeros-more (drop (at + n) b) (i - n) (omega (arith, length-drop (at + n) b)) in
    rw (x, le-ltb i n m) (rw (get_or-drop (at + n) b (i - n) 0, y) at more))

-- an octet of a part
in_part : (b : List ℕ) (at k i : ℕ) → i < length (take k (drop at b)) → get_or (take k (drop at b)) i 0 ≡ get_or b (at + i) 0
in_part b at k i h = get_or-take k (drop at b) i 0 (omega (arith, length-take k (drop at b))) ∙ get_or-drop at b i 0

pub loop-x-init : goal.loop-x-init
unfolding zeros
loop-x-init c = record { counted = refl; zeros_so_far = rw zero-sub refl }

pub loop-x-preserved : goal.loop-x-preserved
loop-x-preserved c =
    let a = c.args in
    let i = c.loop-x.x-index in
    record {
      counted = omega arith;
      zeros_so_far =
          rw (c.loop-x.invariant.zeros_so_far, c.loop-x.invariant.counted, in_part a.blocks.now a.at _ i c.loop-x-test.true) (rest_more a.blocks.now a.at a.n i (omega (arith, length-take {A = ℕ}, length-drop {A = ℕ})));
    }

pub returns : goal.returns
returns c =
    let e : c.loop-x.x-index ≡ longest_block = omega arith in
    rw e at c.loop-x.invariant.zeros_so_far
