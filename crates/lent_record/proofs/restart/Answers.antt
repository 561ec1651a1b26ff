use Rattle.std.proofs.Common.{rules, sym}
use Rattle.lent_record.proofs.Restarts.{short_record, short_page, wrong_page, restarts}
use Rattle.lent_record.proofs.restart.Goals as goal

pub returns-then-rec-lt-RECORD_SIZE : goal.returns-then-rec-lt-RECORD_SIZE
returns-then-rec-lt-RECORD_SIZE c = search (rules, short_record)

pub returns-then-page-lt-PAGE_SIZE : goal.returns-then-page-lt-PAGE_SIZE
returns-then-page-lt-PAGE_SIZE c = search (rules, short_page)

pub returns-then-not-is_run : goal.returns-then-not-is_run
returns-then-not-is_run c = search (rules, wrong_page, sym c.if-not-is_run.ensures)

pub returns : goal.returns
returns c =
    let run = sym c.if-not-is_run.ensures in
    search (rules, restarts, run, c.count_used.ensures.1 run)
