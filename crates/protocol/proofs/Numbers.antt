-- No number is used twice, and none that no page reserves.
use Prim.Native.Nat.{◌≤◌, ◌<◌}
use mathlib.Core.Path.{ap}
use mathlib.Core.Logic.{⊎_elim}
use mathlib.Core.List.Memᴰ
use mathlib.Core.List.{[], ◌∷◌, Memᴰ}
use native.Mathlib.Omega.{arith}
use Rattle.octets.specs.Sizes.{last_incarnation}
use Rattle.protocol.specs.Requests.{accept}
use Rattle.protocol.specs.History.{Act, Event, History, now}
use Rattle.protocol.specs.Claim.{Begins, NeverTwice}
use Rattle.protocol.proofs.Calls.{Deed, refuses, connects, listens, goes, restarts, restart_begins, local_of}

pub record Numbers (h : History) : Type 0 where
  pub last : (now h).local ≤ last_incarnation
  pub once : NeverTwice h
  -- no L that the end had is above the one that it has
  pub top : (y : Event) → Memᴰ y h → y.answer.endpoint.local ≤ (now h).local

-- one more event
more : {h : History} (x : Event) → Numbers h → x.answer.endpoint.local ≤ last_incarnation → (now h).local ≤ x.answer.endpoint.local
    → (Begins x.act → (now h).local < x.answer.endpoint.local) → Numbers (x ∷ h)
unfolding now NeverTwice
more {h} x k g l b = record {
  last = g;
  once = (λ t y m. omega (arith, b t, k.top y m), k.once);
  top = λ y m. ⊎_elim (λ e. omega (arith, ap (λ (z : Event). z.answer.endpoint.local) e)) (λ n. omega (arith, k.top y n)) (Memᴰ.cases_cons m);
}

pub numbers_on : {a b : History} {c : Act} {a' : History} → Numbers a → Deed a b c a' → Numbers a'
unfolding accept
numbers_on k refuses = k
numbers_on k (connects z l e) = more _ k (omega arith) (omega arith) (λ _. omega arith)
numbers_on k (listens z l e) = more _ k (omega arith) (omega arith) (λ _. omega arith)
numbers_on k (goes h n x) = let l = local_of x in more _ k (omega (arith, k.last)) (omega arith) (λ t. absurd (n t))
numbers_on {c = c} k (restarts p t l m) = more _ k (omega arith) (omega arith) (λ u. absurd (restart_begins c t u))

pub no_numbers : Numbers []
unfolding now NeverTwice
no_numbers = record { last = omega arith; once = tt; top = λ y m. absurd (Memᴰ.not-nil m) }
