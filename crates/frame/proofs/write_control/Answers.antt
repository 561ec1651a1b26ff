use mathlib.Core.Path.{sym, ap, ◌∙◌}
use lib.ListN.{length}
use Rattle.frame.specs.Answer.{kind_number}
use Rattle.frame.proofs.Classes.{frame_range, kind_is_frame}
use Rattle.frame.proofs.Writing.{encode-control, head-length}
use Rattle.frame.proofs.write_control.Goals as goal

pub returns : goal.returns
returns c =
    let a = c.args in
    let k = kind_number a.header.kind in
    let e = encode-control k a.header.sender a.header.quoted (frame_range k (kind_is_frame a.header.kind)).0 c.requires.1 in
    record {
      count = sym (ap length e ∙ head-length k a.header.sender a.header.quoted);
      octets = rw e c.write_head.ensures;
    }
