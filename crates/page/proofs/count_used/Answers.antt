use Rattle.std.proofs.Common.{rules, arith, ◌≤◌}
use Rattle.std.proofs.lemmas.List.Sorted.{IsPartitionPoint-from_clause}
use Rattle.octets.specs.Sizes.{page_size}
use Rattle.page.specs.Page.{used}
use Rattle.page.proofs.Scan.{page-parted, point-count}
use lib.Dec.{eqb}
use lib.Seq.{length-take-le}
use Rattle.page.proofs.count_used.Goals as goal

pub returns : goal.returns
returns c =
    let s = c.args.page.now in
    let p = c.partition_point in
    let l : p.result ≤ page_size = omega (arith, p.ensures.bound, length-take-le page_size s c.requires) in
    (l, λ r. point-count s c.requires _ l (IsPartitionPoint-from_clause (λ x. eqb x used) _ _ p.ensures.partitioned (page-parted s c.requires r) (λ a r q k. search rules)))
