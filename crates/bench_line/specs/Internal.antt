-- What is made of a line that was read. No entry point's contract needs this.
use Rattle.std.specs.Prelude.{ℕ, List}
use Rattle.octets.specs.Test.{Outcome, refused, ok, and_then}
use Rattle.bench_spec.specs.declared.Order.{Order}
use Rattle.bench_spec.specs.Bench.{order_of}

-- how many octets were read of a line; none of one that is refused
unfoldable pub length_in : Outcome ℕ → ℕ
length_in (refused n) = 0
length_in (ok n) = n

-- What a line orders, whose octets are s. One that 1 or 2 refuses orders nothing, by their number.
unfoldable pub order_in : Outcome ℕ → List ℕ → Outcome Order
order_in read s = and_then read (λ (n : ℕ). order_of s)
