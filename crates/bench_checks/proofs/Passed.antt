-- What holds where questions 11, 12 and 15 are passed.
use Prim.Native.Nat.{◌≤◌}
use mathlib.Core.Path.{◌≡◌}
use mathlib.Core.Bool.{true}
use borrow.Author.Tests.{leb-true}
use lib.ListN.{length}
use Rattle.octets.specs.Sizes.{longest_frame, longest_block, page_size}
use Rattle.bench_log.specs.Log.{log_size, places}
use Rattle.endpoint.specs.Record.{record_size}
use Rattle.octets.specs.Test.{when, first}
use Rattle.octets.proofs.Test.{all_yes}
use Rattle.call_spec.specs.Calls.{Rooms}
use Rattle.call_spec.specs.Claim.{Lent}
use Rattle.lent_record.specs.Record.{format, paged_for}
use Rattle.bench_spec.specs.Bench.{Bench, neither}
use Rattle.bench_checks.specs.Ready.{ready_questions}

-- of an end that is not restarted
pub record Fit (r : Lent) : Type 0 where
  pub long : record_size ≤ length r.rec
  pub page_long : page_size ≤ length r.page
  pub is_sound : format.sound r.rec ≡ true
  pub goes : paged_for r.rec r.page ≡ true

pub record Passed (w : Bench) (room : Rooms) : Type 0 where
  pub fit_a : Fit w.a
  pub fit_b : Fit w.b
  pub long_log : log_size ≤ length w.log
  pub enough : longest_frame ≤ room.frame
  pub enough_block : longest_block ≤ room.block
  pub few : w.count ≤ places

-- where neither is
pub passed : (w : Bench) (room : Rooms) → first (ready_questions neither w room) ≡ 0 → Passed w room
unfolding when
passed w room h =
    let a = all_yes 11 _ _ h tt in
    let b = all_yes 11 _ _ a.1 tt in
    let p = all_yes 11 _ _ b.1 tt in
    let q = all_yes 11 _ _ p.1 tt in
    let l = all_yes 11 _ _ q.1 tt in
    let r = all_yes 11 _ _ l.1 tt in
    let k = all_yes 11 _ _ r.1 tt in
    let sa = all_yes 12 _ _ k.1 tt in
    let sb = all_yes 12 _ _ sa.1 tt in
    let c = all_yes 12 _ _ sb.1 tt in
    let ga = all_yes 15 _ _ c.1 tt in
    let gb = all_yes 15 _ _ ga.1 tt in
    record {
      fit_a = record { long = leb-true record_size (length w.a.rec) a.0; page_long = leb-true page_size (length w.a.page) p.0; is_sound = sa.0; goes = ga.0 };
      fit_b = record { long = leb-true record_size (length w.b.rec) b.0; page_long = leb-true page_size (length w.b.page) q.0; is_sound = sb.0; goes = gb.0 };
      long_log = leb-true log_size (length w.log) l.0;
      enough = leb-true longest_frame room.frame r.0;
      enough_block = leb-true longest_block room.block k.0;
      few = leb-true w.count places c.0;
    }
