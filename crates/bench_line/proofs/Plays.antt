-- From the order of a line to the line.
use Prim.Native.Nat.{ℕ, ◌≤◌}
use mathlib.Core.Path.{◌≡◌, refl, sym, ap, ◌∙◌}
use mathlib.Core.Logic.{◌≢◌}
use Rattle.std.specs.Prelude.{Result, Ok, Err}
use Rattle.std.specs.Result.{result_unwrap_or}
use Rattle.octets.specs.declared.refusal.Refusal.{Refusal}
use Rattle.octets.specs.Refusal.{told}
use mathlib.Core.List.{List}
use native.Mathlib.Omega.{arith}
use lib.ListN.{length, take}
use Rattle.octets.specs.Sizes.{longest_frame}
use Rattle.octets.specs.Test.{first, Outcome, refused, ok, refusing, mapped, and_then}
use Rattle.octets.specs.Octets.{left}
use Rattle.hexadecimal.specs.Line.{unhex, read_into}
use Rattle.hexadecimal.proofs.Asked.{passed, fits, reads, turned_away}
use Rattle.call_spec.specs.Calls.{rooms}
use Rattle.call_spec.specs.Claim.{Lent}
use Rattle.bench_spec.specs.declared.Order.{Order}
use Rattle.bench_spec.specs.declared.Order.TheVariants as order
use Rattle.bench_spec.specs.Bench.{Bench, end_number, order_of, end_restarted, end_of}
use Rattle.bench_spec.proofs.Ends.{same_number}
use Rattle.bench_spec.proofs.Ends as ends
use Rattle.bench_checks.specs.Ready.{ready_questions}
use Rattle.bench_call.specs.Internal.{task_of, call_by, order_outcome, OrderReady, Does}
use Rattle.bench_call.specs.declared.BenchAnswer.{BenchAnswer}
use Rattle.bench_call.specs.Answer.{start_of, bench_answer_of}
use Rattle.bench_order.specs.Performed.{line_start, Performed}
use Rattle.bench_order.specs.Internal.{asks_ready, Asked, found, FindableIn, decided, end_for, EndKnown}
use Rattle.bench_order.proofs.Plays.{findable, decides, Fine, fine, end_known, is_ready, place-a, place-b, any_start}
use Rattle.bench_order.proofs.Plays as order_plays
use Rattle.bench_line.specs.Performed.{asks_lent, LinePerformed}
use Rattle.bench_line.specs.Internal.{length_in, order_in}
use Rattle.bench_line.proofs.Asked.{passes, some_octet, declined}
use Rattle.bench_line.proofs.Asked as asked

-- a request stands after its kind
any_asked : (x : Outcome Order) (t : List ℕ) → 1 ≤ length t → Asked x t
any_asked (refused n) t h = tt
any_asked (ok (order.Request i)) t h = h
any_asked (ok (order.Deliver n)) t h = tt
any_asked (ok (order.Restart i)) t h = tt

-- what the code has of a line that was read
pub read_length : (x : Result ℕ Refusal) → result_unwrap_or x 0 ≡ length_in (told x)
unfolding length_in
read_length (Ok n) = refl
read_length (Err r) = refl

-- what was read of a line into a buffer d, whose octets are then s
module _ (text d : List ℕ) (l : length d ≡ longest_frame) {s : List ℕ} (e : s ≡ left (read_into text d) d) where
  abbrev Read : Outcome ℕ → Type 0
  Read x = x ≡ mapped length (read_into text d)

  fits_in : (x : Outcome ℕ) → Read x → length s ≡ longest_frame → length_in x ≤ longest_frame
  unfolding length_in
  fits_in (ok n) h k = fits text d l (passed text d l n s (sym h) e) k
  fits_in (refused n) h k = omega arith

  asks : (x : Outcome ℕ) → Read x → Asked (order_in x (take (length_in x) s)) (take (length_in x) s)
  unfolding order_in length_in and_then
  asks (ok n) h =
      let p = passed text d l n s (sym h) e in
      any_asked (order_of (take n s)) (take n s) (omega (arith, ap length (reads text d l p), some_octet text p.all_yes))
  asks (refused n) h = tt

  plays : (w : Bench) (out up : List ℕ) (x : Outcome ℕ) → Read x → {a b : Lent} {log out' up' : List ℕ} {r : BenchAnswer} → let t = take (length_in x) s in
      Performed w (asks_ready w t (rooms (length out) (length up)) (order_in x t)) (start_of (order_in x t)) out up a b log out' up' r
      → LinePerformed w text out up a b log out' up' r
  unfolding length_in order_in and_then line_start start_of
  plays w out up (ok n) h y =
      let p = passed text d l n s (sym h) e in
      rw (passes w text (rooms (length out) (length up)) p.all_yes) (rw (reads text d l p) at y)
  plays w out up (refused n) h y =
      let q = turned_away text d l n (sym h) in
      let z = declined w text (rooms (length out) (length up)) q.0 q.1 in
      any_start z.1 0 (line_start (unhex text))
      (rw (asked.turned_away w text (rooms (length out) (length up)) (take 0 s) q.0 q.1) (rw q.2 at y))

  module _ {x : Outcome ℕ} (h : Read x) {n : ℕ} (k : n ≡ length_in x) where
    pub in-room : length s ≡ longest_frame → n ≤ longest_frame
    in-room m = rw k (fits_in x h m)

    pub is-asked : {o : Outcome Order} → o ≡ order_in x (take n s) → Asked o (take n s)
    is-asked f = rw (f, k) (asks x h)

    pub performs : {o : Outcome Order} → o ≡ order_in x (take n s) → (w : Bench) (out up : List ℕ) {a b : Lent} {log out' up' : List ℕ} {r : BenchAnswer}
        → Performed w (asks_ready w (take n s) (rooms (length out) (length up)) o) (start_of o) out up a b log out' up' r
        → LinePerformed w text out up a b log out' up' r
    performs f w out up y = let z = rw f at y in plays w out up x h (rw k at z)

-- A line that was read, understood and asked: its order o, by what refuses before it, is decided as d.
module _ (w : Bench) (text out up t : List ℕ) (l : length t ≡ longest_frame) {s : List ℕ} (read : Result ℕ Refusal)
    (h : (told read ≡ mapped length (read_into text t)) × (s ≡ left (read_into text t) t)) {n : ℕ} (k : n ≡ result_unwrap_or read 0) where
  abbrev length-is : n ≡ length_in (told read)
  length-is = k ∙ read_length read

  pub in_room : length s ≡ longest_frame → n ≤ longest_frame
  in_room = in-room text t l h.1 h.0 length-is

  module _ {o : Outcome Order} (f : o ≡ order_in (told read) (take n s)) {restarted : ℕ} (g : restarted ≡ end_restarted o)
      {lent : Bench} (v : lent ≡ w) {ready : ℕ} (q' : ready ≡ first (ready_questions restarted lent (rooms (length out) (length up)))) where
    abbrev q : ready ≡ first (ready_questions restarted w (rooms (length out) (length up)))
    q = q' ∙ ap (λ (x : Bench). first (ready_questions restarted x (rooms (length out) (length up)))) v

    pub can-be-found : ready ≡ 0 → FindableIn o w.log w.count
    can-be-found = findable w (rooms (length out) (length up)) o g q

    module _ {d : Outcome Order} (m : d ≡ refusing ready (and_then o (found w.log w.count))) where
      abbrev is-decided : d ≡ decided w (rooms (length out) (length up)) o
      is-decided = decides w (rooms (length out) (length up)) o g q m

      abbrev asked-first : Asked o (take n s)
      asked-first = is-asked text t l h.1 h.0 length-is f

      is-fine : Fine w.a w.b w.log w.count (take n s) out up d
      is-fine = fine w.a w.b w.log w.count (take n s) out up o is-decided asked-first

      pub known : EndKnown d w.log
      known = end_known w.a w.b w.log w.count (take n s) out up d is-fine

      pub ready_at_a : OrderReady d w.a (take n s) w.log w.count out up
      ready_at_a = is_ready w.a w.b w.log w.count (take n s) out up d is-fine (λ p. p.fit_a)

      pub ready_at_b : OrderReady d w.b (take n s) w.log w.count out up
      ready_at_b = is_ready w.a w.b w.log w.count (take n s) out up d is-fine (λ p. p.fit_b)

      module _ {i : ℕ} (z : i ≡ end_for d w.log) {l' : Lent} {log' out' up' : List ℕ} {r : BenchAnswer} where
        pub at_a : i ≡ 0 → Does i w.a w.log w.count (start_of d) (call_by (task_of d)) (order_outcome d w.a w.log w.count (take n s) (rooms (length out) (length up))) out up l' log' out' up' r
            → LinePerformed w text out up l' w.b log' out' up' r
        at_a y x =
            performs text t l h.1 h.0 length-is f w out up
            (order_plays.plays w.a w.b w.log w.count (take n s) out up o is-decided asked-first z (place-a w.a w.b w.log w.count (take n s) out up y) x)

        pub at_b : i ≢ 0 → Does i w.b w.log w.count (start_of d) (call_by (task_of d)) (order_outcome d w.b w.log w.count (take n s) (rooms (length out) (length up))) out up l' log' out' up' r
            → LinePerformed w text out up w.a l' log' out' up' r
        at_b y x =
            performs text t l h.1 h.0 length-is f w out up
            (order_plays.plays w.a w.b w.log w.count (take n s) out up o is-decided asked-first z (place-b w.a w.b w.log w.count (take n s) out up y) x)

-- the end that is told, as a number
pub named : (w : Bench) (text out up : List ℕ) {a b : Lent} {log out' up' : List ℕ} {r : BenchAnswer} → LinePerformed w text out up a b log out' up' r
    → end_number r.end ≡ end_of (asks_lent w text out up)
unfolding bench_answer_of
named w text out up p = ap (λ (x : BenchAnswer). end_number x.end) p.answer ∙ same_number (end_of (asks_lent w text out up)) (ends.known w text (rooms (length out) (length up)))
