-- Two ends and a list of calls at them, whatever form their records have (document 01, "Demand 3, over a list of calls").
use Rattle.std.specs.Prelude.{◌≡◌, List, [], ◌∷◌}
use Rattle.octets.specs.Test.{Outcome, ok}
use Rattle.protocol.specs.Endpoint.{Endpoint, fresh}
use Rattle.protocol.specs.Table.{Step}
use Rattle.protocol.specs.History.{endpoint_left, Act, does, History, recorded, ActDue}

-- What an end is.
pub record Ends : Type 1 where
  -- its record, in whatever form, and which records are fresh
  pub Record : Type 0
  pub Fresh : Record → Type 0
  -- its own calls, with any arguments besides the record, its restarts among them (N6), and the act of the protocol that one says
  pub Call : Type 0
  pub said : Record → Call → Outcome Act
  -- what a call comes to that finds a record, and the record that this leaves
  pub comes : Record → Call → Outcome Step
  pub leaves : Record → Call → Outcome Step → Record
  -- whether a call may stand in the list beside the answers of the other end: a delivery is of a frame that an earlier call there sent
  pub Due : History → History → Call → Type 0

-- An end at a moment: its record as the last call left it, and what its accepted calls have answered, the latest first.
pub record End (Record : Type 0) : Type 0 where
  pub rec : Record
  pub history : History

-- end A and end B, which may be of two kinds, each with its own records and calls
pub record Both (S T : Type 0) : Type 0 where
  pub a : S
  pub b : T

-- an entry of the list: an end and a call at it
pub data Entry (C D : Type 0) : Type 0 where
  at_a : C → Entry C D
  at_b : D → Entry C D

module _ (E : Ends) where
  -- one call more
  unfoldable pub called : E.Call → End E.Record → End E.Record
  called c x =
      let o = E.comes x.rec c in
      record { rec = E.leaves x.rec c o; history = recorded (E.said x.rec c) o x.history }

  -- it is fresh, and has sent nothing
  abbrev pub New : End E.Record → Type 0
  New x = E.Fresh x.rec × (x.history ≡ [])

module _ (A B : Ends) where
  abbrev pub Two : Type 0
  Two = Both (End A.Record) (End B.Record)

  abbrev pub made : Entry A.Call B.Call → Two → Two
  made (at_a c) w = record { a = called A c w.a; b = w.b }
  made (at_b c) w = record { a = w.a; b = called B c w.b }

  -- both ends after a list of calls
  abbrev pub run : Two → List (Entry A.Call B.Call) → Two
  run w [] = w
  run w (c ∷ cs) = run (made c w) cs

  -- every delivery of the list is due where it stands
  abbrev pub DueAt : Entry A.Call B.Call → Two → Type 0
  DueAt (at_a c) w = A.Due w.a.history w.b.history c
  DueAt (at_b c) w = B.Due w.b.history w.a.history c

  abbrev pub AllDue : Two → List (Entry A.Call B.Call) → Type 0
  AllDue w [] = Unit {0}
  AllDue w (c ∷ cs) = DueAt c w × AllDue (made c w) cs

  -- both start fresh, with nothing sent
  abbrev pub BothNew : Two → Type 0
  BothNew w = New A w.a × New B w.b

-- The ends of the protocol: the record is the endpoint itself.
abbrev pub ends_where : (History → Act → Type 0) → Ends
ends_where Fair =
    record {
      Record = Endpoint;
      Fresh = λ e. e ≡ fresh;
      Call = Act;
      said = λ e. ok;
      comes = λ e c. does c e;
      leaves = λ e c. endpoint_left e;
      Due = λ this other c. Fair other c;
    }

abbrev pub ends : Ends
ends = ends_where ActDue
