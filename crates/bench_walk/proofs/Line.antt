-- Line 52 with the number of a frame asks for its delivery.
use Prim.Native.Nat.{ℕ, ◌<◌}
use mathlib.Core.Path.{◌≡◌, refl, sym, ap, ◌∙◌}
use mathlib.Core.List.{List, ◌∷◌}
use native.Mathlib.Omega.{arith}
use lib.ListN.{length}
use Rattle.octets.specs.Test.{when, first, and_then}
use Rattle.octets.specs.Octets.{octets_of, field}
use Rattle.octets.proofs.Octets.{octets_cons, octets_number, width}
use Rattle.octets.proofs.Test.{accepted}
use Rattle.hexadecimal.specs.Line.{hex, unhex, line_questions, read_line}
use Rattle.hexadecimal.proofs.RoundTrip.{written_reads}
use Rattle.frame.specs.Read.{kind_of}
use Rattle.bench_spec.specs.Bench.{Bench, deliver, order_of, order_asks, end_restarted, line_asks}
use Rattle.bench_order.specs.Internal.{asks_ready}
use Rattle.bench_order.proofs.Orders.{orders-frame}
use Rattle.bench_line.proofs.Asked.{passes, passes_on}
use Rattle.bench_query.specs.Found.{delivers, query_questions}
use Rattle.bench_query.proofs.Delivery.{full}
use Rattle.bench_walk.specs.Walk.{delivery_line}

module _ (n : ℕ) where
  abbrev octets : List ℕ
  octets = deliver ∷ octets_of 2 n

  three : length octets ≡ 3
  unfolding octets_of
  three = refl

  -- 1 and 2 are passed, and the octets are read
  read : (first (line_questions (hex octets)) ≡ 0) × (unhex (hex octets) ≡ octets)
  unfolding read_line
  read = accepted _ _ (written_reads octets (octets_cons deliver _ (omega arith) (octets_number 2 n)) (omega (arith, three)) (omega (arith, three)))

  numbered : n < 65536 → n ≡ field 2 1 octets
  unfolding field octets_of
  numbered h = sym ((width 2).reads n (omega arith))

  module _ (w : Bench) (h : first (query_questions w) ≡ 0) (few : n < 65536) where
    -- it restarts neither end, so 11, 12 and 15 are those of the question
    ordered : asks_ready w octets full (order_of octets) ≡ delivers w n
    unfolding asks_ready and_then end_restarted order_asks kind_of first when
    ordered = rw (orders-frame octets refl three (numbered few)) (passes_on (delivers w n) h)

    pub asks : line_asks w (delivery_line n).0 (delivery_line n).1 ≡ delivers w n
    unfolding delivery_line
    asks = passes w (hex octets) full read.0 ∙ ap (λ (s : List ℕ). asks_ready w s full (order_of s)) read.1 ∙ ordered
