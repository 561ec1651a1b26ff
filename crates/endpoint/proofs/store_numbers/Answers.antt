use Rattle.std.proofs.Common.{rules, ◌<◌}
use Rattle.endpoint.proofs.Record.{numbers-put}
use Rattle.endpoint.proofs.store_numbers.Goals as goal

pub returns : goal.returns
returns c =
    let n = c.args.n in
    let state : n.state < 256 = search rules in
    let waiting : n.waiting < 256 = search rules in
    numbers-put n c.args.out.now state waiting c.requires
    c.store8.ensures
    c.change32.ensures
    c.change32-2.ensures
    c.change32-3.ensures
    c.change32-4.ensures
    c.store8-2.ensures
