use Rattle.std.proofs.Common.{◌∙◌}
use Rattle.page.proofs.Scan.{runs-is}
use Rattle.page.proofs.is_run.Goals as goal

pub returns : goal.returns
returns c = c.is_page.ensures ∙ runs-is c.args.page.now c.requires c.count_used.result c.count_used.ensures.1
