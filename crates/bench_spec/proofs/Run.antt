-- A bench run is a list of calls whose deliveries are due, it leaves the records that the list leaves, and demand 3 holds of it.
--
use Prim.Native.Nat.{ℕ, zero, suc, ◌≤◌}
use mathlib.Core.Path.{◌≡◌, refl, sym, ap, ap₂, ◌∙◌}
use mathlib.Core.Bool.{true}
use mathlib.Core.List.{List, [], ◌∷◌}
use native.Mathlib.Omega.{arith}
use lib.Dec.{ltb}
use lib.ListN.{length}
use Rattle.octets.specs.Sizes.{longest_frame}
use Rattle.octets.specs.Test.{when, if_eq, Outcome, refused, ok, mapped, and_then}
use Rattle.octets.specs.Octets as octets
use Rattle.octets.proofs.Test.{if-eq, accepted, all_yes, then_of, passing}
use Rattle.page.specs.Page.{count}
use Rattle.frame.specs.Frame.{Frame}
use Rattle.frame.specs.Layout.{encode}
use Rattle.protocol.specs.Restart.{restarted}
use Rattle.protocol.specs.Table.{none, frame, Step, quiet}
use Rattle.protocol.specs.History.{History}
use Rattle.protocol.specs.World.{End, at_a, at_b, called, run, DueAt, AllDue, BothNew}
use Rattle.protocol.specs.World as world
use Rattle.protocol.specs.Limits.{Sized}
use Rattle.protocol.proofs.World.{Simulates, entry_at, new-held, run-append, due-append}
use Rattle.protocol.proofs.World as law
use Rattle.protocol.proofs.Theorem.{Roomy, roomy, limited}
use Rattle.page.proofs.Laws.{stays}
use Rattle.call_spec.specs.Calls.{restarting, restarted_in, record_after, page_after}
use Rattle.call_spec.specs.Claim.{Lent, lent, LentAct, call, restart, cut, renewed}
use Rattle.call_spec.proofs.Lift.{LiesIn, lies}
use Rattle.lent_record.specs.Record.{format, ends}
use Rattle.lent_record.proofs.Lawful.{lawful}
use Rattle.link.proofs.Demand.{no_end_alone, no_number_twice}
use Rattle.bench_log.specs.Log.{places, log_size}
use Rattle.bench_spec.specs.Bench.{Bench, At, lent_at, line_asks, sends, logged, call_outcome, comes, end_of, log_after, count_after, bench_after}
use Rattle.lent_record.specs.Told.{lent_after}
use Rattle.bench_spec.specs.Run.{LentLine, line_after, lines_after, RunEnds, RunEntry, entry, entries_of, calls_of, new_ends, new_bench, Holds}
use Rattle.bench_spec.proofs.Sends.{grows, has_sent, encode_short}
use Rattle.bench_spec.proofs.Logged.{Among, Logged, Grows, still, logs}
use Rattle.bench_spec.proofs.Fair.{FromLine, asked-fair}

-- the ends of the list of calls
abbrev Held : End Lent → End Lent → Type 0
Held = law.Held ends ends Roomy (LiesIn format) (LiesIn format)

abbrev does : Simulates ends Roomy Sized (LiesIn format)
does = lies format lawful

-- the bench beside them
record Beside (w : Bench) (e : RunEnds) : Type 0 where
  pub a : w.a ≡ e.a.rec
  pub b : w.b ≡ e.b.rec
  pub log : Logged e w.count w.log
  pub held : Held e.a e.b

-- a refusal leaves the bench
refusal : {w : Bench} {e : RunEnds} → Beside w e → (i n : ℕ) → Beside (bench_after i w (refused n)) e
unfolding bench_after record_after page_after mapped octets.left log_after count_after
refusal {w} {e} h i n =
    record {
      a = if-eq (λ (x : Lent). x ≡ e.a.rec) i 0 (λ _. h.a) (λ _. h.a);
      b = if-eq (λ (x : Lent). x ≡ e.b.rec) i 0 (λ _. h.b) (λ _. h.b);
      log = h.log;
      held = h.held;
    }

-- what an accepted call came to: its own outcome, and a place left if it sends
pub came : (l : Lent) (count : ℕ) (c : LentAct) {y : Step} → call_outcome l count c ≡ ok y
    → (ends.comes l c ≡ ok y) × (when (sends y.sent) (ltb count places) true ≡ true)
unfolding call_outcome logged
came l count c h =
    let r = then_of (ends.comes l c) (logged count) h in
    let a = accepted _ _ r.2 in
    (r.1 ∙ ap ok a.1, rw a.1 at (all_yes 14 _ _ a.0 tt).0)

-- a restart leaves the page, whose octets reserve its number already
page_stays : (rec page : List ℕ) {y : Step} → restarted_in format rec page ≡ ok y → page_after page (ok y) ≡ page
unfolding restarted_in restarting page_after
page_stays rec page {y} h =
    let k : ok (quiet (restarted (count page)) none) ≡ ok y = (passing _ (passing _ h).1).1 in
    let z : quiet (restarted (count page)) none ≡ y = cc in
    stays y.endpoint.local page (omega (arith, ap (λ (s : Step). s.endpoint.local) z))

-- so what an accepted line leaves is what the list leaves
leaves_so : (l : Lent) (c : LentAct) {y : Step} → FromLine l c → ends.comes l c ≡ ok y → lent_after l (ok y) ≡ ends.leaves l c (ok y)
unfolding renewed
leaves_so l (call c) f h = refl
leaves_so l (restart rec) {y} f h = λ i. lent (record_after format (sym f i) (ok y)) (page_stays rec l.page h i)
leaves_so l (cut c rec) f h = absurd f

-- what an accepted call at an end adds to it
record Adds (x : End Lent) (l : Lent) (count : ℕ) (c : LentAct) (y : Step) : Type 0 where
  pub leaves : lent_after l (ok y) ≡ (called ends c x).rec
  pub place_left : when (sends y.sent) (ltb count places) true ≡ true
  pub grown : Grows x.history (called ends c x).history
  pub short : (f : Frame) → y.sent ≡ frame f → length (encode f) ≤ longest_frame
  pub among : (f : Frame) → y.sent ≡ frame f → Among (encode f) (called ends c x).history

adds : (x : End Lent) {b : History} {l : Lent} (count : ℕ) (c : LentAct) {y : Step} → l ≡ x.rec → FromLine l c → Roomy (called ends c x).history b
    → call_outcome l count c ≡ ok y → Adds x l count c y
unfolding called
adds x {l = l} count c {y} e f reached m =
    let r = came l count c m in
    let k : ends.comes x.rec c ≡ ok y = rw e at r.0 in
    record {
      leaves = leaves_so l c f r.0 ∙ ap₂ (λ (z : Lent) (o : Outcome Step). ends.leaves z c o) e (sym k);
      place_left = r.1;
      grown = grows c x k;
      short = λ f t. encode_short f ((limited reached).fits f (has_sent c x k f t).0);
      among = λ f t. (has_sent c x k f t).1;
    }

-- an accepted call at A, and at B
at_a_lem : {w : Bench} {e : RunEnds} → Beside w e → (c : LentAct) → FromLine w.a c → DueAt ends ends (at_a c) e → log_size ≤ length w.log
    → {y : Step} → call_outcome w.a w.count c ≡ ok y → Beside (bench_after 0 w (ok y)) (world.made ends ends (at_a c) e)
unfolding bench_after if_eq when log_after count_after
at_a_lem {w} {e} h c f d room {y} m =
    let held = (entry_at ends ends roomy does does (at_a c) e h.held d).0 in
    let x = adds e.a w.count c h.a f held.both m in
    record {
      a = x.leaves;
      b = h.b;
      log =
          logs (world.made ends ends (at_a c) e) w.count _ w.log y.sent (still x.grown (λ s z. z) w.count w.log h.log) room x.place_left
          (λ f t. record { short = x.short f t; by_a = λ _. x.among f t; by_b = λ j. absurd (omega arith) });
      held = held;
    }

at_b_lem : {w : Bench} {e : RunEnds} → Beside w e → (c : LentAct) → FromLine w.b c → DueAt ends ends (at_b c) e → log_size ≤ length w.log
    → {y : Step} → call_outcome w.b w.count c ≡ ok y → Beside (bench_after 1 w (ok y)) (world.made ends ends (at_b c) e)
unfolding bench_after if_eq when log_after count_after
at_b_lem {w} {e} h c f d room {y} m =
    let held = (entry_at ends ends roomy does does (at_b c) e h.held d).0 in
    let x = adds e.b w.count c h.b f (roomy.turns _ _ held.both) m in
    record {
      a = h.a;
      b = x.leaves;
      log =
          logs (world.made ends ends (at_b c) e) w.count _ w.log y.sent (still (λ s z. z) x.grown w.count w.log h.log) room x.place_left
          (λ f t. record { short = x.short f t; by_a = λ j. absurd (omega arith); by_b = λ _. x.among f t });
      held = held;
    }

-- at either
accepts : {w : Bench} {e : RunEnds} → Beside w e → (i : ℕ) (c : LentAct) → i ≤ 1 → FromLine (lent_at i w) c → DueAt ends ends (entry (i, c)) e → log_size ≤ length w.log
    → {y : Step} → call_outcome (lent_at i w) w.count c ≡ ok y → Beside (bench_after i w (ok y)) (world.made ends ends (entry (i, c)) e)
unfolding entry lent_at if_eq when
accepts h zero c l f d room m = at_a_lem h c f d room m
accepts h (suc zero) c l f d room m = at_b_lem h c f d room m
accepts h (suc (suc i)) c l f d room m = absurd (omega arith)

-- one line
record Goes (w : Bench) (e : RunEnds) (x : Outcome At) (o : Outcome Step) : Type 0 where
  pub left : Beside (bench_after (end_of x) w o) (run ends ends e (entries_of x o))
  pub due : AllDue ends ends e (entries_of x o)

goes : {w : Bench} {e : RunEnds} → Beside w e → (l : LentLine) (x : Outcome At) (o : Outcome Step)
    → line_asks w l.0 l.1 ≡ x → comes w x ≡ o → Goes w e x o
unfolding entries_of comes and_then end_of
goes h l (refused n) (refused m) j k = record { left = refusal h 0 m; due = tt }
goes h l (refused n) (ok y) j k = absurd (let z : ◌≡◌ {A = ℕ} 0 1 = cc in omega arith)
goes h l (ok x) (refused m) j k = record { left = refusal h x.0 m; due = tt }
goes {w} {e} h l (ok x) (ok y) j k =
    let f = asked-fair w e h.log l.0 l.1 x j in
    record { left = accepts h x.0 x.1 f.0.0.0 f.0.1 f.0.0.1 f.1 k; due = (f.0.0.1, tt) }

-- all lines
record GoesAll (w : Bench) (e : RunEnds) (ls : List LentLine) : Type 0 where
  pub left : Beside (lines_after w ls) (run ends ends e (calls_of w ls))
  pub due : AllDue ends ends e (calls_of w ls)

-- what a line asks, and the calls that it makes
module _ (w : Bench) (l : LentLine) where
  abbrev asks : Outcome At
  asks = line_asks w l.0 l.1

  abbrev calls-call_outcome : List RunEntry
  calls-call_outcome = entries_of asks (comes w asks)

line_goes : {w : Bench} {e : RunEnds} → Beside w e → (l : LentLine) → Goes w e (asks w l) (comes w (asks w l))
line_goes {w} h l = goes h l (asks w l) (comes w (asks w l)) refl refl

one_more : {w : Bench} {e : RunEnds} (l : LentLine) (ls : List LentLine) → Goes w e (asks w l) (comes w (asks w l))
    → GoesAll (line_after w l) (run ends ends e (calls-call_outcome w l)) ls → GoesAll w e (l ∷ ls)
unfolding lines_after calls_of
one_more {w} {e} l ls g r =
    let ds = calls_of (line_after w l) ls in
    record { left = rw (run-append ends ends e (calls-call_outcome w l) ds) r.left; due = due-append ends ends e (calls-call_outcome w l) ds g.due r.due }

goes_all : {w : Bench} {e : RunEnds} → Beside w e → (ls : List LentLine) → GoesAll w e ls
unfolding line_after lines_after calls_of
goes_all h [] = record { left = h; due = tt }
goes_all {w = w} h (l ∷ ls) = let g = line_goes h l in one_more l ls g (goes_all {w = line_after w l} g.left ls)

-- at the start
fresh-ends : (p q : Lent) → BothNew ends ends (new_ends p q)
fresh-ends p q = ((((p.rec, refl), (p.page, refl)), refl), (((q.rec, refl), (q.page, refl)), refl))

new : (p q : Lent) (log : List ℕ) → Beside (new_bench p q log) (new_ends p q)
unfolding new_bench
new p q log =
    record { a = refl; b = refl; log = λ k l. absurd (omega arith); held = new-held ends ends roomy does does (new_ends p q) (fresh-ends p q) }

pub bench_run : (p q : Lent) (log : List ℕ) (lines : List LentLine) → Holds p q log lines
bench_run p q log lines =
    let g = goes_all (new p q log) lines in
    record {
      due = g.due;
      end_a = g.left.a;
      end_b = g.left.b;
      demand = no_end_alone (new_ends p q) (fresh-ends p q) (calls_of (new_bench p q log) lines) g.due;
      once_a = (no_number_twice (new_ends p q) (fresh-ends p q) (calls_of (new_bench p q log) lines) g.due).0;
      once_b = (no_number_twice (new_ends p q) (fresh-ends p q) (calls_of (new_bench p q log) lines) g.due).1;
    }
