use Rattle.std.proofs.Common.{◌≡◌, ◌*◌, arith}
use Rattle.octets.specs.Sizes.{numbers_each}
use Rattle.endpoint.specs.View.{pack}
use Rattle.endpoint.proofs.Endpoint.restarted.Goals as goal

-- a fresh end but for its number
pub returns : goal.returns
unfolding pack
returns c =
    let f = c.fresh-e.ensures in
    let l : c.args.used * numbers_each ≡ numbers_each * c.args.used = omega arith in
    λ i. record {
      state = (f i).state;
      local = l i;
      remote = (f i).remote;
      accepted = (f i).accepted;
      delivered = (f i).delivered;
      waiting = (f i).waiting;
      lengths = (f i).lengths;
      blocks = (f i).blocks;
      held_lengths = (f i).held_lengths;
      held_blocks = (f i).held_blocks;
    }
