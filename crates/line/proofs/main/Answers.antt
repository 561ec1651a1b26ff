use Rattle.lent_record.proofs.Fresh.{all-unused}
use Rattle.line.proofs.main.Goals as goal

pub run-requires : goal.run-requires
run-requires c = all-unused
