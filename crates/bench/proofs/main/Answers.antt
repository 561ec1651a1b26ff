use Rattle.std.proofs.Common.{refl}
use Rattle.lent_record.proofs.Fresh.{all-unused}
use Rattle.bench.proofs.main.Goals as goal

pub run-requires : goal.run-requires
run-requires c = record { a_page_value = (all-unused, all-unused); log_value = (refl, refl) }
