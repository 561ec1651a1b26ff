-- Hosts that hold their ends' records as structs, each with its page, and call them with octets: a call, or a restart, leaves the record of its answer.
use Rattle.std.specs.Prelude.{ℕ, ◌≤◌, ◌≡◌, true, List, ◌++◌, length}
use Rattle.octets.specs.Test.{Outcome, refused, ok, mapped}
use Rattle.page.specs.Page.{new_page}
use Rattle.protocol.specs.Endpoint.{fresh}
use Rattle.protocol.specs.Endpoint as abstract
use Rattle.protocol.specs.Table.{Step}
use Rattle.protocol.specs.History.{History}
use Rattle.protocol.specs.History as protocol
use Rattle.protocol.specs.World.{Ends}
use Rattle.protocol.specs.Limits.{Bounded}
use Rattle.call_spec.specs.Calls.{Arguments, said, restarting, performed, restarted_in, page_after}
use Rattle.call_spec.specs.Claim.{DueOctets, cut_says}
use Rattle.endpoint.specs.declared.Endpoint.{Endpoint}
use Rattle.endpoint.specs.View.{pack}
use Rattle.endpoint_plan.specs.Calls.{outcome_of}
use Rattle.endpoint_step.specs.Calls.{step_answer_of}
use Rattle.lent_record.specs.Record.{format}

-- what a host holds of an end
pub record Held : Type 0 where
  pub endpoint : Endpoint
  pub page : List ℕ

abbrev pub paged : Endpoint → List ℕ → Held
paged e page = record { endpoint = e; page = page }

-- What stands in a list at an end: a call; a restart, which is lent no record; or a call that is cut after its store, and the restart after it.
pub data HostAct : Type 0 where
  call : Arguments → HostAct
  restart : HostAct
  cut : Arguments → HostAct

-- A host restarts its ends whenever it likes.
abbrev pub HostDue : History → HostAct → Type 0
HostDue other (call c) = DueOctets other c.call c.octets
HostDue other restart = Unit {0}
HostDue other (cut c) = Unit {0}

abbrev comes_to : Held → Arguments → Outcome Step
comes_to r c = outcome_of r.endpoint r.page c

abbrev pub said_by : Held → HostAct → Outcome protocol.Act
said_by r (call c) = mapped protocol.call (said c)
said_by r restart = ok protocol.restart
said_by r (cut c) = ok (cut_says (said c) (comes_to r c))

abbrev pub comes_by : Held → HostAct → Outcome Step
comes_by r (call c) = comes_to r c
comes_by r restart = restarting r.page
comes_by r (cut c) = restarting (page_after r.page (comes_to r c))

-- The page after it: a restart stores nothing, and one that follows a cut finds the page as the call has left it. (Were it refused, all would be as
-- before the call.)
unfoldable pub page_left : Held → HostAct → Outcome Step → List ℕ
page_left r (call c) o = page_after r.page o
page_left r restart o = r.page
page_left r (cut c) (refused n) = r.page
page_left r (cut c) (ok x) = page_after r.page (comes_to r c)

abbrev pub ends : Ends
ends =
    record {
      Record = Held;
      Fresh = λ r. (r.endpoint ≡ pack fresh) × ((more : List ℕ) × (r.page ≡ new_page ++ more));
      Call = HostAct;
      said = said_by;
      comes = comes_by;
      leaves = λ r c o. paged (step_answer_of r.endpoint o).endpoint (page_left r c o);
      Due = λ this. HostDue;
    }

-- What is claimed beside demand 3: a call on the struct of a sound endpoint comes to what the call on its octets comes to, with the same page; and so does
-- a restart, in a buffer that is long enough.
abbrev pub AsInOctets : Type 0
AsInOctets =
    (e : abstract.Endpoint) (rest page : List ℕ) → abstract.sound e ≡ true → Bounded e → (c : Arguments)
    → performed format (format.octets e ++ rest) page c ≡ outcome_of (pack e) page c

abbrev pub RestartsAsInOctets : Type 0
RestartsAsInOctets = (rec page : List ℕ) → format.size ≤ length rec → restarted_in format rec page ≡ restarting page
