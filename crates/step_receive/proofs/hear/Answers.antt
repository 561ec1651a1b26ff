use Rattle.protocol.specs.Table.{step}
use Rattle.protocol.specs.History.{perform}
use Rattle.step_receive.proofs.hear.Goals as goal

pub returns : goal.returns
unfolding perform step
returns c = λ b d q h old w o lz. rw (c.choose-row.ensures q h b w) at (c.apply.ensures b d q h old w o lz)
