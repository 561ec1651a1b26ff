use Rattle.std.proofs.Common.{arith}
use Rattle.page.specs.Page.{goes_with}
use Rattle.page.proofs.goes_with.Goals as goal

pub is_page-requires : goal.is_page-requires
is_page-requires c = (c.requires, omega arith)

pub returns : goal.returns
unfolding goes_with
returns c = c.is_page.ensures
