use mathlib.Core.Path.{◌≡◌, refl}
use mathlib.Core.List.{List, []}
use Prim.Native.Nat.{ℕ}
use mathlib.Core.Logic.{◌≢◌}
use lib.ListN.{get_or}
use Rattle.frame.specs.Frame.{DATA, SEND}
use Rattle.octets.specs.Test.{when, if_eq}
use Rattle.octets.specs.Octets.{size}
use Rattle.frame.specs.Layout.{has_block, layout, numbers_size}
use Rattle.frame.specs.Read.{kind_of, block_at, cut_block}
use Rattle.frame.proofs.Classes.{rest_is, none_kind}
use Rattle.frame.proofs.Shape.{no_block}
use native.Mathlib.Omega.{arith}
use Rattle.frame_read.proofs.cut_block.Goals as goal

-- other kinds have no block
none : (s : List ℕ) → kind_of s ≢ DATA → kind_of s ≢ SEND → [] ≡ cut_block s
unfolding cut_block block_at when
none s n m = rw (no_block (kind_of s) n m) refl

pub returns-in_default : goal.returns-in_default
returns-in_default c =
    let s = c.args.s.now in
    let z = none_kind s (omega (arith, c.in_default.len_below)) in
    none s (λ e. omega arith) (λ e. omega arith)

pub returns-in-8 : goal.returns-in-8
unfolding cut_block block_at kind_of has_block numbers_size layout size if_eq when
returns-in-8 c = let e : get_or c.args.s.now 0 0 ≡ 8 = omega arith in rw e (rw (rest_is c.args.s.now) at c.after.ensures)

pub returns-in-68 : goal.returns-in-68
unfolding cut_block block_at kind_of has_block numbers_size layout size if_eq when
returns-in-68 c = let e : get_or c.args.s.now 0 0 ≡ 68 = omega arith in rw e (rw (rest_is c.args.s.now) at c.after-in-68.ensures)

pub returns-in_default-first : goal.returns-in_default-first
unfolding kind_of
returns-in_default-first c = none c.args.s.now (λ e. omega arith) (λ e. omega arith)
