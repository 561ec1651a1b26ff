-- What is claimed of the call by value, beside its contract.
use Rattle.std.specs.Prelude.{ℕ, ◌≡◌, true, List}
use Rattle.octets.specs.Test.{ok}
use Rattle.protocol.specs.Endpoint as abstract
use Rattle.protocol.specs.Table.{Step}
use Rattle.protocol.specs.Limits.{Bounded}
use Rattle.endpoint.specs.declared.Endpoint.{Endpoint}
use Rattle.endpoint.specs.View.{Long, pack, view}
use Rattle.endpoint.specs.Sound.{sound}
use Rattle.call_spec.specs.Calls.{Arguments, InOctets}
use Rattle.endpoint_plan.specs.Calls.{outcome_of}

-- What an accepted call leaves: a sound endpoint, whose struct is sound and holds it, and where the numbers had 32 bits they have.
pub record LeavesStruct (a : abstract.Endpoint) (x : Step) : Type 0 where
  pub is_sound : abstract.sound x.endpoint ≡ true
  pub record_sound : sound (pack x.endpoint) ≡ true
  pub holds : view (pack x.endpoint) ≡ x.endpoint
  pub bounded : Bounded a → Bounded x.endpoint

-- The claim, of every struct whose arrays have their lengths.
abbrev pub StructStaysSound : Type 0
StructStaysSound =
    (e : Endpoint) → Long e → (page : List ℕ) (c : Arguments) → InOctets c.call c.octets → (x : Step)
    → outcome_of e page c ≡ ok x → LeavesStruct (view e) x
