-- What the answer of reading a line says of its outcome.
use Prim.Native.Nat.{ℕ}
use mathlib.Core.Path.{◌≡◌, refl}
use mathlib.Core.List.{List}
use native.Mathlib.Omega.{arith}
use lib.ListN.{length}
use Rattle.octets.specs.Test.{Outcome, refused, ok, mapped, number_of}
use Rattle.octets.specs.Octets.{left}
use Rattle.codec.specs.Calls.{WritesOctets, count_told}

pub decoded : (o : Outcome (List ℕ)) {out out' : List ℕ} (c n : ℕ) → ok n ≡ mapped length o → out' ≡ left o out → WritesOctets o out out' c n 0
unfolding mapped number_of count_told
decoded (refused m) c n h b = absurd (let z : ◌≡◌ {A = ℕ} 0 1 = cc in omega arith)
decoded (ok s) c n h b = record { answer = refl; buffer = b; count = (cc) }

pub declined : (o : Outcome (List ℕ)) {out out' : List ℕ} (c n : ℕ) → refused n ≡ mapped length o → out' ≡ left o out → WritesOctets o out out' c c n
unfolding mapped number_of count_told
declined (refused m) c n h b = record { answer = (cc); buffer = b; count = refl }
declined (ok s) c n h b = absurd (let z : ◌≡◌ {A = ℕ} 0 1 = cc in omega arith)
