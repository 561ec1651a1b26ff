-- What the requests answer that their questions let pass.
use Prim.Native.Nat.{◌+◌, ◌≤◌}
use mathlib.Core.Path.{◌≡◌, refl, sym}
use mathlib.Core.List.{[], ◌∷◌}
use native.Mathlib.Omega.{arith}
use lib.ListN.{length}
use Rattle.octets.specs.Test.{ok, outcome}
use Rattle.frame.specs.Frame.{Block, Request, ack_frame}
use Rattle.protocol.specs.Endpoint.{Endpoint}
use Rattle.protocol.specs.Table.{none, handed_up, quiet, says, delivering}
use Rattle.protocol.specs.Requests.{refusal, collected, accept, request}

module _ (a : Endpoint) where
  pub allowed : (r : Request) → 0 ≡ refusal r a → request r a ≡ ok (accept r a)
  unfolding request outcome
  allowed r e = rw (sym e) refl

  pub collected-none : (b : Block) → length b ≡ 0 → collected a b ≡ quiet a none
  unfolding collected
  collected-none [] h = refl
  collected-none (x ∷ b) h = absurd (omega arith)

  pub collected-some : (b : Block) → 1 ≤ length b → collected a b ≡ says (delivering a) (handed_up b) (ack_frame a.local a.remote (a.delivered + 1))
  unfolding collected
  collected-some [] h = absurd (omega arith)
  collected-some (x ∷ b) h = refl
