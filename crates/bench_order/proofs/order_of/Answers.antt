use Rattle.bench_order.proofs.Orders.{no_octet}
use Rattle.bench_order.proofs.order_of.Goals as goal

pub returns-in_default : goal.returns-in_default
returns-in_default c = no_octet c.args.s.now c.in_default.len_below
