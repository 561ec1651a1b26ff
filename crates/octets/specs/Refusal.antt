-- The refusals of document 01 by name, and what a Result with one says.
use Rattle.std.specs.Prelude.{ℕ, Result, Ok, Err}
use Rattle.octets.specs.Test.{Outcome, refused, ok}
use Rattle.octets.specs.declared.refusal.Refusal.{Refusal}
use Rattle.octets.specs.declared.refusal.Refusal.TheVariants.{BadLength, BadDigit, UnknownKind, BadSize, BadCount, BadBlock, BadNumber, WrongState, NoNumberLeft, QueueFull, ShortBuffer, Unsound, NoSuchFrame, LogFull, WrongPage}

-- the number of the question whose answer is no
abbrev pub refusal_number : Refusal → ℕ
refusal_number BadLength = 1
refusal_number BadDigit = 2
refusal_number UnknownKind = 3
refusal_number BadSize = 4
refusal_number BadCount = 5
refusal_number BadBlock = 6
refusal_number BadNumber = 7
refusal_number WrongState = 8
refusal_number NoNumberLeft = 9
refusal_number QueueFull = 10
refusal_number ShortBuffer = 11
refusal_number Unsound = 12
refusal_number NoSuchFrame = 13
refusal_number LogFull = 14
refusal_number WrongPage = 15

-- the value, or the number of the refusal
abbrev pub told : {A : Type 0} → Result A Refusal → Outcome A
told (Ok x) = ok x
told (Err r) = refused (refusal_number r)

-- the number that is told, 0 for success: number_of (told r), case by case
abbrev pub refusal_in : {A : Type 0} → Result A Refusal → ℕ
refusal_in (Ok x) = 0
refusal_in (Err r) = refusal_number r
