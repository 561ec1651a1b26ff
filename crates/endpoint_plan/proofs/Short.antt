-- A block handed up has at most 64 octets: one received since its frame was read, one collected since the record is sound.
use Prim.Native.Nat.{ℕ, ◌≤◌}
use mathlib.Core.Path.{◌≡◌, refl, ap}
use mathlib.Core.Bool.{true}
use mathlib.Core.List.{List, []}
use native.Mathlib.Omega.{arith}
use lib.ListN.{length, get_or}
use Rattle.octets.specs.Sizes.{longest_block}
use Rattle.octets.specs.Test.{first, Outcome, refused, ok, number_of}
use Rattle.octets.proofs.Test.{by_eq}
use Rattle.frame.specs.Read.{cut_block}
use Rattle.protocol.specs.Table.{Step}
use Rattle.call_spec.specs.declared.Call.{Call}
use Rattle.call_spec.specs.declared.Call.TheVariants.{Request, Receive}
use Rattle.call_spec.specs.Calls.{Arguments, does, own_questions, asked}
use Rattle.call_spec.specs.Answers.{notice_of, block_of}
use Rattle.step_plan.proofs.Up.{source, right}
use Rattle.endpoint.specs.declared.Endpoint.{Endpoint}
use Rattle.endpoint.specs.View.{view}
use Rattle.endpoint.specs.Sound.{sound}
use Rattle.endpoint.proofs.Packs.{Long}
use Rattle.endpoint.proofs.Sounds.{facts}
use Rattle.endpoint_plan.specs.Calls.{outcome_of}
use Rattle.endpoint_plan.proofs.Messages.{accepted_short}
use Rattle.endpoint_plan.proofs.Ready.{accepted_by, passes}

-- a call with notice 5 is accepted
pub five : (o : Outcome Step) → notice_of o ≡ 5 → number_of o ≡ 0
unfolding notice_of number_of
five (refused n) h = absurd (omega arith)
five (ok x) h = refl

module _ (e : Endpoint) (long : Long e) where
  held-short : sound e ≡ true → length (get_or (view e).held 0 []) ≤ longest_block
  held-short f =
      by_eq (length (get_or (view e).held 0 [])) 0 (λ z. omega arith) (λ z. ((facts e f long).fitting 0 (omega arith)).0)

  source-short : (c : Call) (s : List ℕ) → sound e ≡ true → number_of (does c s (view e)) ≡ 0 → length (source c (cut_block s) (view e)) ≤ longest_block
  unfolding source
  source-short Request s f h = held-short f
  source-short Receive s f h = accepted_short Receive s (view e) h

  pub up-short : (page : List ℕ) (c : Arguments) → length (block_of (outcome_of e page c)) ≤ longest_block
  unfolding outcome_of asked view
  up-short page c =
      let o = asked (sound e) page (view e) c in
      let w = right (sound e) page (view e) c in
      by_eq (notice_of o) 5
      (λ z.
      let k = (passes (sound e) page (view e) c (five o z)).is_fine in
      let l = source-short c.call c.octets k (accepted_by (first (own_questions (sound e) e.local page c)) _ (five o z)).1 in
      omega (arith, ap length (w.some z), l))
      (λ z. omega (arith, ap length (w.nothing z)))
