-- What is claimed of the calls on lent records, beside demand 3 and what Rattle.call_spec claims of every format.
use Rattle.std.specs.Prelude.{ℕ, ◌≡◌, List}
use Rattle.octets.specs.Test.{Outcome, ok}
use Rattle.octets.specs.Octets.{Octets}
use Rattle.protocol.specs.Endpoint.{Endpoint}
use Rattle.protocol.specs.Table.{Step}
use Rattle.protocol.specs.History.{endpoint_left}
use Rattle.call_spec.specs.declared.Call.TheVariants.{Receive}
use Rattle.call_spec.specs.Calls.{Arguments, InOctets, Rooms, given, performed, record_after, page_after}
use Rattle.call_spec.specs.Claim.{lent, Passes}
use Rattle.call_spec.specs.Holding.{Holding}
use Rattle.lent_record.specs.Record.{format}
use Rattle.lent_record.specs.Told.{lent_after}

-- a record that holds a sound endpoint goes on holding one, and its page goes with it, whatever calls come
abbrev pub GoesOn : Type 0
GoesOn =
    (rec page : List ℕ) (e : Endpoint) → Holding format rec page e → (c : Arguments) → InOctets c.call c.octets
    → (o : Outcome Step) → performed format rec page c ≡ o → Holding format (record_after format rec o) (page_after page o) (endpoint_left e o)

-- an accepted call, of any record in octets, leaves one that passes 12, and a page that passes 15
abbrev pub StaysSound : Type 0
StaysSound =
    (rec page : List ℕ) → Octets rec → (c : Arguments) → InOctets c.call c.octets
    → (x : Step) → performed format rec page c ≡ ok x → Passes format (lent_after (lent rec page) (ok x))

-- receiving leaves the page
abbrev pub ReceivingStays : Type 0
ReceivingStays =
    (rec page s : List ℕ) (r : Rooms) (o : Outcome Step) → performed format rec page (given Receive s r) ≡ o → page_after page o ≡ page
