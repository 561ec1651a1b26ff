use Rattle.std.proofs.Common.{rules, sym, ◌∙◌, ℕ, ◌<◌, get_or}
use Rattle.octets.specs.Octets.{Octets}
use Rattle.endpoint.proofs.Record.{put_same}
use Rattle.endpoint.proofs.change32.Goals as goal

pub returns-then-load32-x : goal.returns-then-load32-x
unfolding Octets
returns-then-load32-x c =
    let d = c.args.d.now in
    let e = sym c.load32.ensures ∙ c.if-load32-x.true in
    let octets : (i : ℕ) → get_or d i 0 < 256 = search rules in
    rw e at (put_same d c.args.at octets c.requires)
