-- The plan of a call of a lent record. No entry point's contract needs this.
use Rattle.std.specs.Prelude.{◌≤◌, ℕ, List, length, Result, OnOk}
use Rattle.octets.specs.declared.refusal.Refusal.{Refusal}
use Rattle.frame.specs.Read.{cut_block}
use Rattle.call_spec.specs.declared.Call.{Call}
use Rattle.call_spec.specs.Calls.{Rooms, given, performed}
use Rattle.step_plan.specs.declared.Plan.{Plan}
use Rattle.endpoint.specs.Record.{record_size, decode}
use Rattle.endpoint_plan.specs.Internal.{PlansFrom}
use Rattle.lent_record.specs.Record.{format}

-- the plan of a call of such a record with this page, these octets and these rooms, or the refusal that it comes to
abbrev pub PlansLent : Call → List ℕ → List ℕ → List ℕ → Rooms → Result Plan Refusal → Type 0
PlansLent c rec page s r q = OnOk q (record_size ≤ length rec) × PlansFrom c r (decode rec) (cut_block s) (performed format rec page (given c s r)) q
