use Rattle.std.proofs.Common.{rules}
use Rattle.endpoint.specs.Internal.{numbers_of}
use Rattle.endpoint.proofs.Packs.{Long}
use Rattle.endpoint.proofs.Record.{encode_puts}
use Rattle.endpoint.proofs.encode.Goals as goal

pub returns : goal.returns
returns c =
    let e = c.args.e in
    let long : Long e = record { lengths = search rules; blocks = search rules; held_lengths = search rules; held_blocks = search rules } in
    encode_puts (numbers_of e) e.lengths e.blocks e.held_lengths e.held_blocks c.args.out.now long c.requires
    (rw c.from.ensures at c.store_numbers.ensures) c.copy.ensures c.copy-2.ensures c.copy-3.ensures c.copy-4.ensures
