-- The restart of an end of the bench: nothing is sent, and the page stays.
use Prim.Native.Nat.{ℕ, ◌*◌}
use mathlib.Core.Path.{◌≡◌, refl, sym, ap, subst}
use mathlib.Core.List.{List}
use native.Mathlib.Omega.{arith}
use lib.ListN.{length}
use Rattle.octets.specs.Test.{Outcome, refused, ok, mapped, and_then}
use Rattle.octets.specs.Sizes.{numbers_each}
use Rattle.octets.specs.Octets.{left}
use Rattle.octets.proofs.Octets.{put-none}
use Rattle.octets.proofs.Test.{passing}
use Rattle.page.specs.Page.{count}
use Rattle.page.proofs.Laws.{stays}
use Rattle.protocol.specs.Restart.{restarted}
use Rattle.protocol.specs.Table.{none, Step, quiet}
use Rattle.call_spec.specs.declared.Call.TheVariants.{Receive}
use Rattle.call_spec.specs.Calls.{wire, restarting, restarted_in, record_after, buffer_after, page_after}
use Rattle.call_spec.specs.Claim.{lent, restart}
use Rattle.call_spec.specs.Answers.{block_in, block_of, block_part, block_buffer_after}
use Rattle.lent_record.specs.declared.Answer.{Answer}
use Rattle.lent_record.specs.Record.{format}
use Rattle.lent_record.specs.Told.{sent_of, answer_of, Restarted}
use Rattle.link.specs.Lent.{Called}
use Rattle.bench_spec.specs.Bench.{call_outcome}
use Rattle.bench_call.proofs.Moves.{quiet_logs}

-- the step that a restart takes, if it is accepted
pub restart_step : (rec page : List ℕ) {y : Step} → restarted_in format rec page ≡ ok y → quiet (restarted (count page)) none ≡ y
unfolding restarted_in restarting
restart_step rec page {y} h = let k : ok (quiet (restarted (count page)) none) ≡ ok y = (passing _ (passing _ h).1).1 in cc

module _ (rec page : List ℕ) (n : ℕ) where
  abbrev restart_at : Outcome Step
  restart_at = call_outcome (lent rec page) n (restart rec)

  -- 14 is not asked of a step that sends nothing
  same : (o : Outcome Step) → restarted_in format rec page ≡ o → restart_at ≡ o
  unfolding call_outcome and_then
  same (refused k) h = rw h refl
  same (ok y) h = rw h (quiet_logs n y (ap (λ (x : Step). x.sent) (sym (restart_step rec page h))))

  -- nothing is sent, and no block handed up
  abbrev Quiet : Outcome Step → Type 0
  Quiet o = (sent_of o ≡ 0) × (length (block_of o) ≡ 0)

  is-quiet : (o : Outcome Step) → restarted_in format rec page ≡ o → Quiet o
  unfolding sent_of block_of block_in wire
  is-quiet (refused k) h = (refl, refl)
  is-quiet (ok y) h = subst (λ (x : Step). Quiet (ok x)) (restart_step rec page h) (refl, refl)

  pub restarts-quietly : Quiet restart_at
  restarts-quietly = rw (same (restarted_in format rec page) refl) (is-quiet (restarted_in format rec page) refl)

  -- what is told of an outcome, and what it leaves
  abbrev Leaves : Outcome Step → Type 0
  Leaves o =
      (s out up rec' : List ℕ) (r : Answer) → r ≡ answer_of rec o → rec' ≡ record_after format rec o
      → Called Receive o rec s out up rec' out up r × (page ≡ page_after page o)

  refused_leaves : (k : ℕ) → Leaves (refused k)
  unfolding answer_of block_of block_part page_after buffer_after block_buffer_after mapped left
  refused_leaves k s out up rec' r a e = (record { answer = a; end = e; buffer = refl; block_buffer = refl; block = rw a refl }, refl)

  restarted-leaves : Leaves (ok (quiet (restarted (count page)) none))
  unfolding answer_of block_of block_in block_part page_after buffer_after block_buffer_after wire mapped left
  restarted-leaves s out up rec' r a e = (
    record { answer = a; end = e; buffer = put-none out 0; block_buffer = refl; block = rw a refl },
    sym (stays (numbers_each * count page) page (omega arith)),
  )

  leaves : (o : Outcome Step) → restarted_in format rec page ≡ o → Leaves o
  leaves (refused k) h = refused_leaves k
  leaves (ok y) h = subst (λ (x : Step). Leaves (ok x)) (restart_step rec page h) restarted-leaves

  pub restarts : (s out up : List ℕ) {rec' : List ℕ} {r : Answer} → Restarted rec page rec' r
      → Called Receive restart_at rec s out up rec' out up r × (page ≡ page_after page restart_at)
  restarts s out up {rec'} {r} w = rw (same (restarted_in format rec page) refl) (leaves (restarted_in format rec page) refl s out up rec' r w.answer w.end)
