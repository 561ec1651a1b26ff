-- What is claimed of a program that answers lines from the state s₀, where what is kept of a line says all that counts of it (Cuts).
use Rattle.std.specs.Prelude.{ℕ, ◌≡◌, ◌≢◌, List, [], ◌++◌}
use Rattle.hexadecimal.specs.Line.{normal}
use Rattle.line_split.specs.Split.{ended}
use Rattle.line_io.specs.declared.Place.{Place}
use Rattle.line_io.specs.Answering.{Answering, answers, input_text}
use Rattle.line_io.specs.Step.{Stepped}
use Rattle.line_io.specs.Program.{handed, Ran, Over, concat}

-- THE claim: when it is done after the end of its input, however the input came in pieces, all that was handed to be written is the text of the input.
abbrev pub WholeText : (a : Answering) → ℕ → a.State → Type 0
WholeText a room s₀ =
    (s : a.State) (buf line out : List ℕ) (p : Place) (w : Ran a room s₀ s buf line out p) → p.steps ≡ 0 → Over w.pieces
    → concat w.texts ≡ input_text a s₀ (concat w.pieces)

-- And whenever it reads, all that was handed to be written before answers every line that has ended: a person who types gets each answer at once.
abbrev pub AtOnce : (a : Answering) → ℕ → a.State → Type 0
AtOnce a room s₀ =
    (s s' : a.State) (buf line out buf' line' out' : List ℕ) (p q : Place) (w : Ran a room s₀ s buf line out p)
    → Stepped a room s buf line out p s' buf' line' out' q → p.at ≡ p.end → q.steps ≢ 0
    → concat (w.texts ++ handed room out p) ≡ answers a s₀ (ended [] (concat w.pieces))

-- An input, and the same with its capitals made small, have the same text (document 02, N1).
abbrev pub EitherCase : (a : Answering) → a.State → Type 0
EitherCase a s₀ = (input : List ℕ) → input_text a s₀ (normal input) ≡ input_text a s₀ input
