-- How an end's record lies in its 1,058 octets, the questions that are asked of it and of its page, and the ends that are lent such records.
use Rattle.std.specs.Prelude.{ℕ, Bool, List, [], ◌∷◌, leb, length}
use Rattle.octets.specs.Sizes.{page_size}
use Rattle.octets.specs.Test.{Question}
use Rattle.page.specs.Page.{goes_with}
use Rattle.protocol.specs.World.{Ends}
use Rattle.endpoint.specs.View.{pack, view}
use Rattle.endpoint.specs.Sound.{sound}
use Rattle.endpoint.specs.Record.{record_size, encode, decode}
use Rattle.call_spec.specs.Calls.{Format}
use Rattle.call_spec.specs.Claim as calls

abbrev pub format : Format
format = record { size = record_size; sound = λ s. sound (decode s); holds = λ s. view (decode s); octets = λ e. encode (pack e) }

-- 15 of a page beside a record (N6)
abbrev pub paged_for : List ℕ → List ℕ → Bool
paged_for rec page = goes_with (format.holds rec).local page

-- 11, 12 and 15 of a record and its page
abbrev pub record_questions : List ℕ → List ℕ → List Question
record_questions rec page =
    (11, leb format.size (length rec)) ∷ (11, leb page_size (length page)) ∷ (12, format.sound rec) ∷ (15, paged_for rec page) ∷ []

abbrev pub ends : Ends
ends = calls.ends format
