-- Ends whose calls are given octets (document 01, "Demand 3, over a list of calls"; document 02, N6): any octets, any frame buffer, refused calls,
-- restarts and cuts included.
use Rattle.std.specs.Prelude.{ℕ, ◌≤◌, ◌≡◌, true, length}
use mathlib.Core.List.{List, ◌++◌, map, Memᴰ}
use Rattle.octets.specs.Test.{Outcome, refused, ok, mapped}
use Rattle.frame.specs.Layout.{encode}
use Rattle.page.specs.Page.{goes_with, new_page}
use Rattle.protocol.specs.Endpoint.{Endpoint, fresh, sound}
use Rattle.protocol.specs.Table.{Step}
use Rattle.protocol.specs.History.{History, sent}
use Rattle.protocol.specs.History as protocol
use Rattle.protocol.specs.World.{Ends, Entry, Two, run, AllDue, BothNew}
use Rattle.protocol.specs.Limits.{Bounded}
use Rattle.call_spec.specs.declared.Call.{Call}
use Rattle.call_spec.specs.declared.Call.TheVariants.{Request, Receive}
use Rattle.call_spec.specs.Calls.{Arguments, said, Format, performed, restarted_in, record_after, page_after}

-- what an end lends to its calls and keeps between them
pub record Lent : Type 0 where
  pub rec : List ℕ
  pub page : List ℕ

abbrev pub lent : List ℕ → List ℕ → Lent
lent rec page = record { rec = rec; page = page }

-- What stands in a list at an end: a call; a restart, with a buffer for the record that may have any length and hold anything; or a call that is cut after
-- its store, and the restart after it. (A cut before the store is a restart as any other.)
pub data LentAct : Type 0 where
  call : Arguments → LentAct
  restart : List ℕ → LentAct
  cut : Arguments → List ℕ → LentAct

-- Any call may stand anywhere, but the octets of a frame received equal those of a frame that an earlier call at the other end sent.
abbrev pub DueOctets : History → Call → List ℕ → Type 0
DueOctets other Request s = Unit {0}
DueOctets other Receive s = Memᴰ s (map encode (sent other))

-- So may any restart: one whose buffer is too short for a record is refused by 11, and leaves the record and the page. After a cut an end has its page
-- alone, and does nothing before it has restarted; that restart stands with the cut, so it has room for a record.
abbrev pub LentDue : Format → History → LentAct → Type 0
LentDue format other (call c) = DueOctets other c.call c.octets
LentDue format other (restart rec) = Unit {0}
LentDue format other (cut c rec) = format.size ≤ length rec

-- what a cut call says, by its octets and by what it comes to: one that is refused stores nothing, and is a restart
unfoldable pub cut_says : Outcome protocol.Call → Outcome Step → protocol.Act
cut_says (refused n) o = protocol.restart
cut_says (ok q) (refused n) = protocol.restart
cut_says (ok q) (ok x) = protocol.cut q

-- Of a call that comes to o, the record and the page that a restart finds: its buffer, and the page as the call has left it.
unfoldable pub renewed : Format → List ℕ → List ℕ → Outcome Step → Lent → Lent
renewed format rec page (refused n) r = r
renewed format rec page (ok x) r = lent (record_after format rec (ok x)) page

-- Ends whose records and pages are lent in octets. A fresh one has the record of a fresh endpoint and a new page, in buffers that may be longer.
module _ (format : Format) where
  abbrev comes_to : Lent → Arguments → Outcome Step
  comes_to r c = performed format r.rec r.page c

  abbrev pub said_by : Lent → LentAct → Outcome protocol.Act
  said_by r (call c) = mapped protocol.call (said c)
  said_by r (restart rec) = ok protocol.restart
  said_by r (cut c rec) = ok (cut_says (said c) (comes_to r c))

  abbrev pub comes_by : Lent → LentAct → Outcome Step
  comes_by r (call c) = comes_to r c
  comes_by r (restart rec) = restarted_in format rec r.page
  comes_by r (cut c rec) = restarted_in format rec (page_after r.page (comes_to r c))

  abbrev pub leaves_by : Lent → LentAct → Outcome Step → Lent
  leaves_by r (call c) o = lent (record_after format r.rec o) (page_after r.page o)
  leaves_by r (restart rec) o = renewed format rec r.page o r
  leaves_by r (cut c rec) o = renewed format rec (page_after r.page (comes_to r c)) o r

  abbrev pub ends : Ends
  ends =
      record {
        Record = Lent;
        Fresh = λ r. ((rest : List ℕ) × (r.rec ≡ format.octets fresh ++ rest)) × ((more : List ℕ) × (r.page ≡ new_page ++ more));
        Call = LentAct;
        said = said_by;
        comes = comes_by;
        leaves = leaves_by;
        Due = λ this. LentDue format;
      }

  -- Beside demand 3: wherever a list has come, 12 and 15 are answered yes.
  pub record Passes (r : Lent) : Type 0 where
    pub is_sound : format.sound r.rec ≡ true
    pub goes_so : goes_with (format.holds r.rec).local r.page ≡ true

  abbrev pub NeverRefused : Type 0
  NeverRefused =
      (start : Two ends ends) → BothNew ends ends start → (calls : List (Entry LentAct LentAct)) → AllDue ends ends start calls
      → Passes (run ends ends start calls).a.rec × Passes (run ends ends start calls).b.rec

-- What a format keeps of an endpoint that is sound and has numbers of 32 bits, in a buffer that may be longer.
pub record Lawful (format : Format) : Type 0 where
  pub long : (e : Endpoint) → sound e ≡ true → Bounded e → length (format.octets e) ≡ format.size
  pub passes : (e : Endpoint) (rest : List ℕ) → sound e ≡ true → Bounded e → format.sound (format.octets e ++ rest) ≡ true
  pub keeps : (e : Endpoint) (rest : List ℕ) → sound e ≡ true → Bounded e → format.holds (format.octets e ++ rest) ≡ e
