use mathlib.Core.Path.{ap, ◌∙◌}
use lib.ListN.{length}
use Rattle.octets.specs.Octets.{put}
use Rattle.frame.specs.Answer.{kind_number}
use Rattle.frame.specs.declared.Kind.TheVariants.{Data, Ack}
use Rattle.frame.proofs.Classes.{same_kind}
use Rattle.frame.proofs.Writing.{as-data, as-ack, as-control}
use Rattle.frame.proofs.write.Goals as goal

pub returns-in-Data : goal.returns-in-Data
returns-in-Data c = rw (as-data c.args.header c.args.block.now (ap kind_number c.in-Data.is)) c.write_data.ensures

pub returns-in-Ack : goal.returns-in-Ack
returns-in-Ack c = rw (as-ack c.args.header c.args.block.now (ap kind_number c.in-Ack.is)) c.write_ack.ensures

pub returns-in_default : goal.returns-in_default
returns-in_default c =
    let w = c.write_control.ensures in
    let e = as-control c.args.header c.args.block.now (λ e. c.in_default.not-Data (same_kind c.args.header.kind Data e)) (λ e. c.in_default.not-Ack (same_kind c.args.header.kind Ack e)) in
    record { count = w.count ∙ ap length e; octets = w.octets ∙ ap (put c.args.out.now 0) e }
