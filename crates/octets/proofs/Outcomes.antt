-- What holds of outcomes: of a refusal, of a value, and of what follows a question.
use Prim.Native.Nat.{ℕ, zero, suc}
use mathlib.Core.Path.{◌≡◌, refl}
use mathlib.Core.Logic.{◌≢◌}
use native.Mathlib.Omega.{arith}
use Rattle.octets.specs.Test.{Outcome, refused, ok, outcome, refusing, and_then, number_of}
use Rattle.octets.specs.Refusal.{refusal_number}
use Rattle.octets.specs.declared.refusal.Refusal.{Refusal}
use Rattle.octets.specs.declared.refusal.Refusal.TheVariants.{BadLength, BadDigit, UnknownKind, BadSize, BadCount, BadBlock, BadNumber, WrongState, NoNumberLeft, QueueFull, ShortBuffer, Unsound, NoSuchFrame, LogFull, WrongPage}

module _ {A : Type 0} (P : Outcome A → Type 0) (no : (n : ℕ) → P (refused n)) where
  -- what holds of each refusal and of an outcome holds of the outcome after a question
  pub after-question : (n : ℕ) (o : Outcome A) → P o → P (refusing n o)
  unfolding refusing
  after-question zero o h = h
  after-question (suc n) o h = no (suc n)

  pub of-value : (n : ℕ) (x : A) → P (ok x) → P (outcome n x)
  unfolding outcome
  of-value zero x h = h
  of-value (suc n) x h = no (suc n)

  -- and of what follows a value
  pub after-value : {B : Type 0} (o : Outcome B) (f : B → Outcome A) → ((x : B) → o ≡ ok x → P (f x)) → P (and_then o f)
  unfolding and_then
  after-value (refused n) f h = no n
  after-value (ok x) f h = h x refl

-- a number other than 0 is that of a refusal
pub is_refused : {A : Type 0} (o : Outcome A) → number_of o ≢ 0 → o ≡ refused (number_of o)
unfolding number_of
is_refused (refused n) h = refl
is_refused (ok x) h = absurd (h refl)

-- a refusal's number is not 0
pub refusal_some : (r : Refusal) → refusal_number r ≢ 0
refusal_some BadLength = λ e. omega arith
refusal_some BadDigit = λ e. omega arith
refusal_some UnknownKind = λ e. omega arith
refusal_some BadSize = λ e. omega arith
refusal_some BadCount = λ e. omega arith
refusal_some BadBlock = λ e. omega arith
refusal_some BadNumber = λ e. omega arith
refusal_some WrongState = λ e. omega arith
refusal_some NoNumberLeft = λ e. omega arith
refusal_some QueueFull = λ e. omega arith
refusal_some ShortBuffer = λ e. omega arith
refusal_some Unsound = λ e. omega arith
refusal_some NoSuchFrame = λ e. omega arith
refusal_some LogFull = λ e. omega arith
refusal_some WrongPage = λ e. omega arith
