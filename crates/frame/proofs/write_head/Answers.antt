use Prim.Native.Nat.{ℕ, suc}
use mathlib.Core.Path.{refl, ap}
use mathlib.Core.List.{List, [], ◌∷◌, ◌++◌}
use Rattle.octets.specs.Octets.{octets_of}
use Rattle.octets.proofs.Octets.{length_octets, then_put}
use native.Mathlib.Omega.{arith}
use Rattle.frame.specs.Answer.{kind_number}
use Rattle.frame.proofs.write_head.Goals as goal

pub returns : goal.returns
returns c =
    let a = c.args in
    let d = a.out.now in
    let k : List ℕ = kind_number a.header.kind ∷ [] in
    let s1 = then_put d k (octets_of 4 a.header.sender) 1 refl (omega (arith, c.requires)) (rw c.number.ensures at c.store8.ensures) c.store32.ensures in
    then_put d (k ++ octets_of 4 a.header.sender) (octets_of 4 a.header.quoted) 5 (ap suc (length_octets 4 a.header.sender)) (omega (arith, c.requires)) s1 c.store32-2.ensures
