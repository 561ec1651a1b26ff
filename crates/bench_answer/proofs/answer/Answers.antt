use Rattle.std.proofs.Common.{arith}
use Rattle.octets.specs.Sizes.{longest_frame, longest_block}
use Rattle.call_spec.specs.Calls.{rooms}
use Rattle.call_spec.specs.Claim.{lent}
use Rattle.bench_spec.specs.Bench.{bench_of}
use Rattle.bench_answer.proofs.Plays.{fine, block-there, tellable, gives}
use Rattle.bench_answer.proofs.answer.Goals as goal

pub block_of-requires : goal.block_of-requires
block_of-requires c = block-there c.perform-r.ensures.answers

pub tell-requires : goal.tell-requires
tell-requires c =
    let a = c.args in
    let w = bench_of (lent a.a.now a.a_page.now) (lent a.b.now a.b_page.now) a.log.now a.count.now in
    (c.requires, tellable c.perform-r.ensures.answers (fine w a.line.now (rooms longest_frame longest_block)) (omega (arith, c.perform-r.auto.out)) c.block_of.ensures)

pub returns : goal.returns
returns c = gives c.perform-r.ensures.answers c.perform-r.ensures.end c.block_of.ensures c.tell.ensures
