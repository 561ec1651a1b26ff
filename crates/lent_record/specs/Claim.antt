-- What is claimed of a restart.
use Rattle.std.specs.Prelude.{ℕ, ◌≡◌, List, length}
use Rattle.page.specs.Page.{new_page}
use Rattle.call_spec.specs.Claim.{lent}
use Rattle.endpoint.specs.Record.{record_size}
use Rattle.lent_record.specs.declared.Answer.{Answer}
use Rattle.lent_record.specs.Told.{Restarted, fresh_end}

-- a restart on a new page, in a buffer of a record's size, leaves a fresh end
abbrev pub RestartsFresh : List ℕ → List ℕ → List ℕ → Answer → Type 0
RestartsFresh rec page rec' r = Restarted rec page rec' r → length rec ≡ record_size → page ≡ new_page → lent rec' page ≡ fresh_end
