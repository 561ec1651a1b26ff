-- A program from its start: its steps, the pieces of input that they read and the texts that they hand to be written.
use Rattle.std.specs.Prelude.{ℕ, ◌+◌, ◌<◌, List, [], ◌∷◌, ◌++◌, take}
use Rattle.octets.specs.Test.{if_eq, if_lt}
use Rattle.line_io.specs.declared.Place.{Place}
use Rattle.line_io.specs.Answering.{Answering}
use Rattle.line_io.specs.Place.{buffer_size, Starts}
use Rattle.line_io.specs.Step.{Stepped}

-- No contract can say that read and write move octets. These two definitions do, and nothing else of a program rests on anything but its contracts.
-- A step hands what waits to be written, where the input at hand is used up and where there is no room for an answer.
unfoldable pub handed : ℕ → List ℕ → Place → List (List ℕ)
handed room out p = if_eq p.at p.end (take p.filled out ∷ []) (if_lt buffer_size (p.filled + room) (take p.filled out ∷ []) [])

-- A step reads, where the input at hand is used up and a step is left: the next piece of the input comes to the start of the buffer, and end counts it. At
-- the end of the input the piece is empty.
unfoldable pub brought : Place → List ℕ → Place → List (List ℕ)
brought p buf' q = if_eq p.at p.end (if_eq q.steps 0 [] (take q.end buf' ∷ [])) []

-- A trace: the steps so far, from the state s₀ and a place that starts, each made while steps were left.
pub data Run (a : Answering) (room : ℕ) (s₀ : a.State) : a.State → List ℕ → List ℕ → List ℕ → Place → List (List ℕ) → List (List ℕ) → Type 0 where
  starts : {buf line out : List ℕ} {p : Place} → Starts p → Run a room s₀ s₀ buf line out p [] []
  steps : {s s' : a.State} {buf line out buf' line' out' : List ℕ} {p q : Place} {pieces texts : List (List ℕ)}
      → Run a room s₀ s buf line out p pieces texts → 0 < p.steps → Stepped a room s buf line out p s' buf' line' out' q
      → Run a room s₀ s' buf' line' out' q (pieces ++ brought p buf' q) (texts ++ handed room out p)

-- there is such a trace
pub record Ran (a : Answering) (room : ℕ) (s₀ s : a.State) (buf line out : List ℕ) (p : Place) : Type 0 where
  pub pieces : List (List ℕ)
  pub texts : List (List ℕ)
  pub run : Run a room s₀ s buf line out p pieces texts

-- the input has ended: a read brought an empty piece
unfoldable pub Over : List (List ℕ) → Type 0
Over [] = ⊥
Over ([] ∷ pieces) = Unit {0}
Over ((c ∷ s) ∷ pieces) = Over pieces

unfoldable pub concat : List (List ℕ) → List ℕ
concat [] = []
concat (s ∷ ss) = s ++ concat ss
