-- What an accepted call is: a call of the protocol that was read, performed by a sound endpoint.
use Prim.Native.Nat.{ℕ}
use mathlib.Core.Path.{◌≡◌, refl}
use mathlib.Core.Bool.{Bool, true}
use mathlib.Core.List.{List}
use native.Mathlib.Omega.{arith}
use Rattle.octets.specs.Test.{first, Outcome, refused, ok, mapped, and_then}
use Rattle.octets.proofs.Test.{passing}
use Rattle.frame.specs.Read.{read_frame, read_request}
use Rattle.frame.proofs.Fits.{read_fits}
use Rattle.protocol.specs.Table.{Step}
use Rattle.protocol.specs.History.{ask, deliver, perform}
use Rattle.protocol.specs.History as protocol
use Rattle.protocol.specs.Endpoint as abstract
use Rattle.protocol.specs.Limits.{Readable}
use Rattle.call_spec.specs.declared.Call.{Call}
use Rattle.call_spec.specs.declared.Call.TheVariants as call
use Rattle.call_spec.specs.Calls.{Arguments, InOctets, reads, does, own_questions, asked}
use Rattle.call_spec.proofs.Lift.{read_sized}
use Rattle.endpoint_plan.proofs.Ready.{all_passed}

-- the parts of an accepted call
mapped_ok : {A B : Type 0} (f : A → B) (o : Outcome A) (next : B → Outcome Step) {y : Step} → and_then (mapped f o) next ≡ ok y
    → (x : A) × (o ≡ ok x) × (next (f x) ≡ ok y)
unfolding and_then mapped
mapped_ok f (refused n) next h = absurd (let z : ◌≡◌ {A = ℕ} 0 1 = cc in omega arith)
mapped_ok f (ok x) next h = (x, refl, h)

-- an accepted call of a sound endpoint performs what its octets say, which was read
pub record Accepted (fine : Bool) (a : abstract.Endpoint) (x : Step) : Type 0 where
  pub is_sound : fine ≡ true
  pub call : protocol.Call
  pub readable : Readable call
  pub performs : perform call a ≡ ok x

-- what an accepted call performs was read
performs : (c : Call) (s : List ℕ) (a : abstract.Endpoint) → InOctets c s → {x : Step} → does c s a ≡ ok x
    → (q : protocol.Call) × Readable q × (perform q a ≡ ok x)
unfolding does reads
performs call.Request s a o h = let q = mapped_ok ask (read_request s) _ h in (ask q.0, read_sized s q.0 q.1, q.2)
performs call.Receive s a o h = let f = mapped_ok deliver (read_frame s) _ h in (deliver f.0, read_fits s f.1 o, f.2)

pub accepts : (fine : Bool) (page : List ℕ) (a : abstract.Endpoint) (c : Arguments) → InOctets c.call c.octets → {x : Step}
    → asked fine page a c ≡ ok x → Accepted fine a x
unfolding asked
accepts fine page a c o h =
    let r = passing (first (own_questions fine a.local page c)) h in
    let q = performs c.call c.octets a o r.1 in
    record { is_sound = (all_passed fine a.local page c r.0).is_fine; call = q.0; readable = q.1; performs = q.2 }
