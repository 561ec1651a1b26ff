use Rattle.page.proofs.Scan.{is_at}
use Rattle.page.proofs.is_page.Goals as goal

pub returns : goal.returns
returns c = rw (c.is_clear.ensures, c.are_unused.ensures) (is_at c.args.page.now c.requires.0 c.args.used c.requires.1)
