use Rattle.std.proofs.Common.{sym, arith}
use Rattle.octets.proofs.Octets.{field-one}
use Rattle.endpoint.specs.Record.{waiting_at, decode}
use Rattle.endpoint.proofs.load_numbers.Goals as goal

pub returns : goal.returns
unfolding decode
returns c =
    let s = c.args.s.now in
    let state = sym (field-one 0 s (omega arith)) in
    let waiting = sym (field-one waiting_at s (omega arith)) in
    λ i. record {
      state = state i;
      local = c.load32.ensures i;
      remote = c.load32-2.ensures i;
      accepted = c.load32-3.ensures i;
      delivered = c.load32-4.ensures i;
      waiting = waiting i;
    }
