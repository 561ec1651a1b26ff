-- What a message says that holds the frame or the request that was read.
use mathlib.Core.Path.{◌≡◌, refl, sym}
use Rattle.std.specs.Prelude.{Result, Ok, Err, MatchResult, IsOkAnd}
use Rattle.octets.specs.Test.{Outcome, mapped}
use Rattle.octets.specs.Refusal.{told}
use Rattle.octets.specs.declared.refusal.Refusal.{Refusal}
use Rattle.frame.specs.Frame.{Block, Request}
use Rattle.frame.specs.Frame as spec
use Rattle.frame.specs.Read.{frame, request}
use Rattle.frame.specs.Answer.{frame_of, request_of, meant}
use Rattle.frame.specs.declared.Header.{Header}
use Rattle.frame.specs.declared.RequestKind.{RequestKind}
use Rattle.frame.specs.declared.Message.{Message}
use Rattle.frame.specs.declared.Message.TheVariants as message

module _ (b : Block) where
  pub of_frame : (r : Result Header Refusal) (y : Result Message Refusal) {o : Outcome spec.Frame} → MatchResult r (λ x. IsOkAnd y (λ m. m ≡ message.Frame x)) (λ e. y ≡ Err e)
      → mapped (λ h. frame_of h b) (told r) ≡ o → mapped (λ m. meant m b) (told y) ≡ mapped frame o
  unfolding mapped meant
  of_frame (Ok x) (Ok m) h e = rw (h, sym e) refl
  of_frame (Ok x) (Err n) h e = absurd h
  of_frame (Err n) y h e = rw (h, sym e) refl

  pub of_request : (r : Result RequestKind Refusal) (y : Result Message Refusal) {o : Outcome Request} → MatchResult r (λ x. IsOkAnd y (λ m. m ≡ message.Request x)) (λ e. y ≡ Err e)
      → mapped (λ q. request_of q b) (told r) ≡ o → mapped (λ m. meant m b) (told y) ≡ mapped request o
  unfolding mapped meant
  of_request (Ok x) (Ok m) h e = rw (h, sym e) refl
  of_request (Ok x) (Err n) h e = absurd h
  of_request (Err n) y h e = rw (h, sym e) refl
