-- The number of a line 52, and a line of no octets.
use Prim.Native.Nat.{ℕ, ◌+◌, ◌*◌, ◌<◌}
use mathlib.Core.Path.{◌≡◌, refl, ap, ◌∙◌}
use mathlib.Core.List.{List, [], ◌∷◌}
use native.Mathlib.Omega.{arith}
use lib.ListN.{length, get_or}
use Rattle.octets.specs.Test.{when, if_eq, refused, ok}
use Rattle.octets.proofs.Test.{eq_yes, eq_no}
use Rattle.octets.specs.Octets.{field}
use Rattle.frame.specs.Read.{kind_of}
use Rattle.bench_spec.specs.declared.Order.TheVariants as order
use Rattle.bench_spec.specs.Bench.{order_of, request_of_a, request_of_b, deliver}
use Rattle.octets.proofs.Octets.{field-more, field-one}

-- the number of 2 octets
pub number_of : (s : List ℕ) → length s ≡ 3 → field 2 1 s ≡ get_or s 1 0 * 256 + get_or s 2 0
number_of s h = field-more 1 1 s (omega arith) ∙ ap (λ (x : ℕ). x * 256 + get_or s 2 0) (field-one 1 s (omega arith))

-- no octet orders nothing
pub no_octet : (s : List ℕ) → length s < 1 → refused 3 ≡ order_of s
unfolding order_of kind_of if_eq when
no_octet [] h = refl
no_octet (x ∷ s) h = absurd (omega arith)

-- a line 52 with such a number
module _ (s : List ℕ) (h : kind_of s ≡ deliver) where
  orders : order_of s ≡ if_eq (length s) 3 (ok (order.Deliver (field 2 1 s))) (refused 4)
  unfolding order_of
  orders =
      eq_no (kind_of s) request_of_a _ _ (λ z. omega (arith, h, z)) ∙ eq_no (kind_of s) request_of_b _ _ (λ z. omega (arith, h, z)) ∙ eq_yes (kind_of s) deliver _ _ h

  pub orders-frame : length s ≡ 3 → {n : ℕ} → n ≡ field 2 1 s → order_of s ≡ ok (order.Deliver n)
  orders-frame l e = rw e (orders ∙ eq_yes _ _ _ _ l)
