-- What a line asks before its order: 11, 12 and 15, then 1 and 2.
use Prim.Native.Nat.{ℕ, zero, suc, ◌*◌, ◌/◌, ◌%◌, ◌≤◌}
use mathlib.Core.Path.{◌≡◌, refl, sym, ap, ◌∙◌}
use mathlib.Core.List.{List, []}
use native.Mathlib.Omega.{arith}
use lib.ListN.{length}
use borrow.Author.Tests.{eqb-true}
use Rattle.octets.specs.Sizes.{longest_frame}
use Rattle.octets.specs.Test.{first, Outcome, refused, refusing, and_then}
use Rattle.octets.proofs.Test.{by_eq, both, within, all_yes, all_before, refusing_of, refuses_before, eq_yes, eq_no}
use Rattle.hexadecimal.specs.Line.{unhex, length_ok, line_questions}
use Rattle.hexadecimal.proofs.Asked as reading
use Rattle.hexadecimal.proofs.Digits.{length-unhex}
use Rattle.call_spec.specs.Calls.{Rooms}
use Rattle.bench_spec.specs.Bench.{Bench, At, buffer_questions, room_questions, sound_questions, order_of, octets_ask, end_restarted, restarted_by, restarted_end, line_asks}
use Rattle.bench_checks.specs.Ready.{ready_questions}
use Rattle.bench_line.specs.Performed.{EmptyLineRefused}
use Rattle.bench_order.specs.Internal.{asks_ready}

-- what follows where no question refuses
pub passes_on : {A : Type 0} {n : ℕ} (o : Outcome A) → n ≡ 0 → refusing n o ≡ o
unfolding refusing
passes_on o h = rw h refl

module _ (w : Bench) (line : List ℕ) (room : Rooms) where
  abbrev asked : Outcome At
  asked = octets_ask w (unhex line) room

  -- 11, 12 and 15 come first, where the end k is restarted; then 1 and 2
  then-line : (k : ℕ) → refusing (first (buffer_questions w (room_questions room (sound_questions k w (line_questions line))))) asked
      ≡ refusing (first (ready_questions k w room)) (refusing (first (line_questions line)) asked)
  then-line k =
      by_eq (first (ready_questions k w room)) 0
      (λ y.
      ap (λ (m : ℕ). refusing m asked) (all_before (ready_questions k w room) (line_questions line) (tt, (tt, (tt, (tt, (tt, (tt, (tt, (tt, (tt, (tt, (tt, (tt, tt)))))))))))) y)
      ∙ sym (passes_on (refusing (first (line_questions line)) asked) y))
      (λ n. refuses_before asked (ready_questions k w room) (line_questions line) refl n ∙ sym (refusing_of (refusing (first (line_questions line)) asked) _ n))

  -- a line that 1 and 2 pass asks what its octets order
  pub passes : first (line_questions line) ≡ 0 → line_asks w line room ≡ asks_ready w (unhex line) room (order_of (unhex line))
  unfolding line_asks restarted_end restarted_by octets_ask asks_ready
  passes h =
      then-line (restarted_end line)
      ∙ ap (λ (o : Outcome At). refusing (first (ready_questions (restarted_end line) w room)) o) (passes_on asked h)
      ∙ ap (λ (k : ℕ). refusing (first (ready_questions k w room)) asked) (eq_yes _ _ _ _ h)

  -- one that they refuse orders nothing, and restarts neither end
  pub turned_away : (s : List ℕ) (k : ℕ) → first (line_questions line) ≡ suc k → line_asks w line room ≡ asks_ready w s room (refused (suc k))
  unfolding line_asks restarted_end refusing asks_ready and_then end_restarted
  turned_away s k h =
      then-line (restarted_end line)
      ∙ ap (λ (m : ℕ). refusing (first (ready_questions (restarted_end line) w room)) (refusing m asked)) h
      ∙ ap (λ (m : ℕ). refusing (first (ready_questions m w room)) (refused (suc k))) (eq_no _ _ _ _ (λ z. omega (arith, h, z)))

  refuses : (n k : ℕ) → (m : ℕ) × (◌≡◌ {A = Outcome At} (refusing n (refused k)) (refused m))
  unfolding refusing
  refuses zero k = (k, refl)
  refuses (suc n) k = (suc n, refl)

  -- it is refused, by that number or one before
  pub declined : (k : ℕ) → first (line_questions line) ≡ suc k → (m : ℕ) × (line_asks w line room ≡ refused m)
  unfolding asks_ready and_then
  declined k h = let r = refuses _ (suc k) in (r.0, turned_away [] k h ∙ r.1)

-- an empty line keeps 1: it asks how an end stands where there is one end (document 02, N5)
pub none_refused : EmptyLineRefused
unfolding asks_ready and_then end_restarted
none_refused w room y = turned_away w [] room [] 0 reading.none_refused ∙ passes_on (refused 1) y

-- a line has at least one octet
pub some_octet : (line : List ℕ) → first (line_questions line) ≡ 0 → 1 ≤ length (unhex line)
unfolding length_ok
some_octet line h =
    let q = both _ _ (all_yes 1 _ _ h tt).0 in
    let l = within 2 (2 * longest_frame) (length line) q.0 in
    let e : length line % 2 ≡ 0 = eqb-true (length line % 2) 0 q.1 in
    omega (arith, l, length-unhex (length line / 2) line (omega (arith, e)))
