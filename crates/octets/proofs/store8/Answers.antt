use Rattle.std.proofs.Common.{rules, [], ◌∷◌}
use Rattle.octets.proofs.Octets.{put_sets}
use Rattle.octets.proofs.store8.Goals as goal

pub returns : goal.returns
returns c = put_sets c.args.d.now (c.args.x ∷ []) c.args.at (search rules)
