use Rattle.hexadecimal.specs.Line.{read_into}
use Rattle.codec.proofs.Lines.{decoded, declined}
use Rattle.codec.proofs.codec_read_line.Goals as goal

pub returns-in-Ok : goal.returns-in-Ok
returns-in-Ok c =
    let r = rw c.in-Ok.is at c.read.ensures in
    decoded (read_into c.args.line.now c.args.out.now) c.args.length.now c.in-Ok.n r.0 r.1

pub returns-in-Err : goal.returns-in-Err
returns-in-Err c =
    let r = rw c.in-Err.is at c.read.ensures in
    rw c.number.ensures.0 (declined (read_into c.args.line.now c.args.out.now) c.args.length.now _ r.0 r.1)
