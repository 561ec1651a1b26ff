-- What the step table has found where a block is handed up, where one is held, and where blocks leave.
use Prim.Native.Nat.{ℕ, ◌+◌, ◌-◌, ◌≤◌, ◌<◌}
use mathlib.Core.Path.{◌≡◌, refl, subst, ap, ◌∙◌}
use mathlib.Core.List.{List, [], ◌∷◌}
use native.Mathlib.Omega.{arith}
use lib.ListN.{length, get_or, set}
use lib.Seq.{set-get_or}
use Rattle.octets.specs.Sizes.{held_size}
use Rattle.frame.specs.Frame.{Block, DATA, Frame}
use Rattle.protocol.specs.declared.Rule.TheVariants.{HandUp, Hold, Release}
use Rattle.protocol.specs.Endpoint.{Endpoint, waiting}
use Rattle.protocol.specs.Table.{rule, first_copy, held_at}
use Rattle.protocol.proofs.Facts.{Found, hand_up, hold, release, found}

handed_up_lem : {a : Endpoint} {f : Frame} → Found a f HandUp → (f.kind ≡ DATA) × (f.number ≡ a.delivered)
handed_up_lem (hand_up h k m r n) = (k, n)

held_early : {a : Endpoint} {f : Frame} → Found a f Hold → (f.kind ≡ DATA) × (a.delivered ≤ f.number) × (f.number < a.delivered + held_size)
held_early (hold h k m r a b) = (k, a, b)

-- a place that is taken stays as it is
first-full : (c b : Block) → 1 ≤ length c → first_copy c b ≡ c
unfolding first_copy
first-full [] b l = absurd (omega arith)
first-full (x ∷ c) b l = refl

pub held_full : (i : ℕ) (b : Block) (h : List Block) → 1 ≤ length (get_or h i []) → held_at i b h ≡ h
unfolding held_at
held_full i b h l = ap (λ (c : Block). set h i c) (first-full (get_or h i []) b l) ∙ set-get_or h i []

released : {a : Endpoint} {f : Frame} → Found a f Release → (a.accepted - waiting a < f.number) × (f.number ≤ a.accepted)
released (release h k m) = (k, m)

module _ (a : Endpoint) (f : Frame) where
  pub hands-up : rule a f ≡ HandUp → (f.kind ≡ DATA) × (f.number ≡ a.delivered)
  hands-up h = handed_up_lem (subst (Found a f) h (found a f))

  pub holds-early : rule a f ≡ Hold → (f.kind ≡ DATA) × (a.delivered ≤ f.number) × (f.number < a.delivered + held_size)
  holds-early h = held_early (subst (Found a f) h (found a f))

  pub frees : rule a f ≡ Release → (a.accepted - waiting a < f.number) × (f.number ≤ a.accepted)
  frees h = released (subst (Found a f) h (found a f))
