use Prim.Native.Nat.{ℕ, ◌+◌}
use mathlib.Core.Path.{◌≡◌, sym, ap, ◌∙◌}
use mathlib.Core.List.{List, [], ◌∷◌, ◌++◌}
use lib.ListN.{length, length-append}
use Rattle.octets.specs.Octets.{octets_of}
use Rattle.octets.proofs.Octets.{length_octets, then_put}
use Rattle.frame.specs.Frame.{DATA}
use Rattle.frame.specs.Layout.{head_size, control_numbers, data_block_at}
use Rattle.frame.proofs.Writing.{head, head-length, encode_data}
use native.Mathlib.Omega.{arith}
use Rattle.frame.proofs.write_data.Goals as goal

pub returns : goal.returns
returns c =
    let a = c.args.header in
    let d = c.args.out.now in
    let b = c.args.block.now in
    let h = head DATA a.sender a.quoted in
    let n = octets_of 4 a.number in
    let k : List ℕ = length b ∷ [] in
    let e = encode_data a.sender a.quoted a.number b c.requires.1.0 in
    let lh = head-length DATA a.sender a.quoted in
    let lc : length (h ++ n) ≡ head_size + control_numbers + 4 = length-append h n ∙ omega (arith, lh, length_octets 4 a.number) in
    let lb : length ((h ++ n) ++ k) ≡ data_block_at = length-append (h ++ n) k ∙ omega (arith, lc) in
    let s1 = then_put d h n (head_size + control_numbers) lh (omega (arith, c.requires.0)) (rw c.requires.1.1 at c.write_head.ensures) c.store32.ensures in
    let s2 = then_put d (h ++ n) k (head_size + control_numbers + 4) lc (omega (arith, c.requires.0)) s1 c.store8.ensures in
    record {
      count = sym (ap length e ∙ length-append ((h ++ n) ++ k) b ∙ omega (arith, lb));
      octets = rw e (then_put d ((h ++ n) ++ k) b data_block_at lb (omega (arith, c.requires.0)) s2 c.write_block.ensures);
    }
