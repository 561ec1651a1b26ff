-- What a restart of a lent record answers, question by question.
use Prim.Native.Nat.{ℕ, ◌≤◌, ◌<◌}
use mathlib.Core.Path.{◌≡◌, refl, sym, ap, ◌∙◌}
use mathlib.Core.Bool.{true, false}
use mathlib.Core.List.{List}
use borrow.Author.Tests.{le-leb, lt-leb}
use lib.ListN.{length}
use Rattle.octets.specs.Sizes.{page_size}
use Rattle.octets.specs.Test.{when, first, refused, ok, refusing, mapped, number_of}
use Rattle.octets.specs.Octets.{put, left}
use Rattle.page.specs.Page.{runs, count}
use Rattle.protocol.specs.Restart.{restarted}
use Rattle.protocol.specs.Table.{none, quiet, notice_number}
use Rattle.call_spec.specs.Calls.{wire, restarting, restarted_in, record_after}
use Rattle.call_spec.specs.Answers.{notice_of, block_in, block_of}
use Rattle.endpoint.specs.declared.Endpoint.{Endpoint}
use Rattle.endpoint.specs.View.{pack}
use Rattle.endpoint.specs.Record.{record_size, encode}
use Rattle.call_spec.proofs.Restarting.{restarts-short, restarts-wrong}
use Rattle.call_spec.proofs.Restarting as ready
use Rattle.lent_record.specs.declared.Answer.{Answer}
use Rattle.lent_record.specs.Record.{format}
use Rattle.lent_record.specs.Told.{told_of, status_of, sent_of, answer_of, Restarted}

module _ (rec page : List ℕ) where
  refuses : {n : ℕ} → restarted_in format rec page ≡ refused n → (r : Answer) → r ≡ answer_of rec (refused n) → Restarted rec page rec r
  unfolding record_after mapped left
  refuses e r h = record { answer = rw e h; end = rw e refl }

  pub short_record : (r : Answer) → length rec < record_size → r ≡ answer_of rec (refused 11) → Restarted rec page rec r
  unfolding restarted_in refusing first when
  short_record r h = refuses (rw (lt-leb record_size (length rec) h) refl) r

  enough : record_size ≤ length rec → restarted_in format rec page ≡ restarting page
  unfolding restarted_in refusing first when
  enough l = rw (le-leb record_size (length rec) l) refl

  pub short_page : (r : Answer) → record_size ≤ length rec → length page < page_size → r ≡ answer_of rec (refused 11) → Restarted rec page rec r
  short_page r l h = refuses (enough l ∙ restarts-short page h) r

  pub wrong_page : (r : Answer) → record_size ≤ length rec → page_size ≤ length page → runs page ≡ false → r ≡ answer_of rec (refused 15) → Restarted rec page rec r
  wrong_page r l k h = refuses (enough l ∙ restarts-wrong page k h) r

  pub restarts : record_size ≤ length rec → page_size ≤ length page → runs page ≡ true → (n : ℕ) → n ≡ count page → (e : Endpoint) → e ≡ pack (restarted n)
      → (rec' : List ℕ) → rec' ≡ put rec 0 (encode e)
      → Restarted rec page rec' (record { status = record { number = 0; state = e.state; notice = 0; local = e.local; remote = e.remote }; sent = 0; block = 0 })
  unfolding record_after mapped left answer_of status_of told_of sent_of block_of block_in notice_of notice_number number_of wire
  restarts l k h n c e p rec' q =
      let o : restarted_in format rec page ≡ ok (quiet (restarted n) none) =
      enough l ∙ ready.restarts page k h ∙ ap (λ (m : ℕ). ok (quiet (restarted m) none)) (sym c) in
      let told : record { status = record { number = 0; state = e.state; notice = 0; local = e.local; remote = e.remote }; sent = 0; block = 0 } ≡ answer_of rec (ok (quiet (restarted n) none)) =
      λ i. record { status = record { number = 0; state = (p i).state; notice = 0; local = (p i).local; remote = (p i).remote }; sent = 0; block = 0 } in
      record { answer = rw o told; end = rw o (q ∙ ap (λ (x : Endpoint). put rec 0 (encode x)) p) }
