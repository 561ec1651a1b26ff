use Prim.Native.Nat.{◌+◌}
use mathlib.Core.Path.{sym, ap, ◌∙◌}
use lib.ListN.{length, length-append}
use Rattle.octets.specs.Octets.{octets_of}
use Rattle.octets.proofs.Octets.{length_octets, then_put}
use Rattle.frame.specs.Frame.{ACK}
use Rattle.frame.specs.Layout.{head_size, control_numbers}
use Rattle.frame.proofs.Writing.{head, head-length, encode_ack}
use native.Mathlib.Omega.{arith}
use Rattle.frame.proofs.write_ack.Goals as goal

pub returns : goal.returns
returns c =
    let a = c.args.header in
    let h = head ACK a.sender a.quoted in
    let e = encode_ack a.sender a.quoted a.number in
    let l = head-length ACK a.sender a.quoted in
    record {
      count = sym (ap length e ∙ length-append h (octets_of 4 a.number) ∙ omega (arith, l, length_octets 4 a.number));
      octets = rw e (then_put c.args.out.now h (octets_of 4 a.number) (head_size + control_numbers) l (omega (arith, c.requires.0)) (rw c.requires.1 at c.write_head.ensures) c.store32.ensures);
    }
