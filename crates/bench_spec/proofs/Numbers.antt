-- A refusal that is turned to the number which is told.
use Prim.Native.Nat.{ℕ, ◌≤◌}
use mathlib.Core.Path.{◌≡◌, refl, sym, ap, ◌∙◌}
use native.Mathlib.Omega.{arith}
use Rattle.std.specs.Prelude.{Result, Ok, Err, IsOk, IsErrAnd, MatchResult}
use Rattle.octets.specs.Test.{Outcome, refusing, and_then}
use Rattle.octets.specs.Refusal.{refusal_number, told, refusal_in}
use Rattle.octets.specs.declared.refusal.Refusal.{Refusal}
use Rattle.octets.proofs.Test.{refusing_of}
use Rattle.octets.proofs.Outcomes.{refusal_some}
use Rattle.bench_spec.specs.Bench.{numbered}

module _ {A : Type 0} where
  -- y is r, its refusal turned to its number: what map_err promises
  abbrev pub Renumbered : Result A Refusal → Result A ℕ → Type 0
  Renumbered r y = MatchResult r (λ (x : A). y ≡ Ok x) (λ (e : Refusal). IsErrAnd y (λ (n : ℕ). (n ≡ refusal_number e) × ((1 ≤ n) × (n ≤ 15))))

  -- then both say the same
  pub by_number : (r : Result A Refusal) (y : Result A ℕ) → Renumbered r y → numbered y ≡ told r
  by_number (Ok x) y h = rw h refl
  by_number (Err e) (Ok x) h = absurd h
  by_number (Err e) (Err n) h = rw h.0 refl

  -- what was asked refuses nothing where the turned one is no error
  pub passed_as : (r : Result A Refusal) (y : Result A ℕ) → numbered y ≡ told r → IsOk y → refusal_in r ≡ 0
  passed_as (Ok x) y e h = refl
  passed_as (Err q) (Ok x) e h = absurd (let z : ◌≡◌ {A = ℕ} 0 1 = cc in omega arith)
  passed_as (Err q) (Err n) e h = absurd (let z : ◌≡◌ {A = ℕ} 0 1 = cc in omega arith)

  -- and what follows it follows the questions
  pub follows : {B : Type 0} (r : Result A Refusal) (o : Outcome B) → and_then (told r) (λ (x : A). o) ≡ refusing (refusal_in r) o
  unfolding and_then refusing
  follows (Ok x) o = refl
  follows (Err q) o = sym (refusing_of o (refusal_number q) (refusal_some q))

  -- as what follows the turned one does
  pub follows_as : {B : Type 0} (r : Result A Refusal) (y : Result A ℕ) → Renumbered r y → (o : Outcome B) {d : Outcome B} → d ≡ and_then (numbered y) (λ (x : A). o) → d ≡ refusing (refusal_in r) o
  follows_as r y h o m = m ∙ ap (λ (z : Outcome A). and_then z (λ (x : A). o)) (by_number r y h) ∙ follows r o
