use Rattle.std.proofs.Common.{length-take-le}
use Rattle.bench_call.proofs.Does.{answers}
use Rattle.bench_call.proofs.finish.Goals as goal

pub returns : goal.returns
returns c =
    let a = c.args in
    (answers a.end a.a a.start a.count c.block_place.ensures c.note-counted.ensures.0 (length-take-le a.a.sent a.out.now c.requires.0), c.note-counted.ensures.1)
