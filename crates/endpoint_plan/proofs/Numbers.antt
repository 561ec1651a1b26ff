-- What an accepted call makes of L, by the protocol's law: it stays, or the next number is begun. Receiving begins none.
use Prim.Native.Nat.{ℕ}
use mathlib.Core.Path.{◌≡◌, refl, subst}
use mathlib.Core.List.{List}
use Rattle.octets.specs.Test.{Outcome, refused, ok, mapped, and_then}
use Rattle.octets.proofs.Outcomes.{after-value}
use Rattle.frame.specs.Frame.{Frame}
use Rattle.frame.specs.Read.{read_frame}
use Rattle.protocol.specs.Endpoint.{Endpoint}
use Rattle.protocol.specs.Table.{Step}
use Rattle.protocol.specs.History.{deliver, perform, endpoint_left}
use Rattle.protocol.specs.History as protocol
use Rattle.protocol.proofs.Facts.{heard}
use Rattle.protocol.proofs.Calls.{Next, same_number, next_on, local_of}
use Rattle.call_spec.specs.declared.Call.{Call}
use Rattle.call_spec.specs.declared.Call.TheVariants as call
use Rattle.call_spec.specs.Calls.{reads, does}

module _ (e : Endpoint) where
  abbrev Leaves : Outcome Step → Type 0
  Leaves o = Next e (endpoint_left e o)

  pub local-after : (c : Call) (s : List ℕ) {x : Step} → does c s e ≡ ok x → Next e x.endpoint
  unfolding does
  local-after c s h = subst Leaves h (after-value Leaves (λ n. same_number refl) (reads c s) (λ (k : protocol.Call). perform k e) (λ k _. next_on k e))

  abbrev Keeps : Outcome Step → Type 0
  Keeps o = (endpoint_left e o).local ≡ e.local

  hears : (r : Outcome Frame) → Keeps (and_then (mapped deliver r) (λ (k : protocol.Call). perform k e))
  unfolding and_then mapped perform
  hears (refused n) = refl
  hears (ok f) = local_of (heard e f)

  pub receive-local : (s : List ℕ) {x : Step} → does call.Receive s e ≡ ok x → x.endpoint.local ≡ e.local
  unfolding does reads
  receive-local s h = subst Keeps h (hears (read_frame s))
