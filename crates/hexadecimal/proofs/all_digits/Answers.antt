use Rattle.std.proofs.Common.{rules, ◌≡◌, ◌&&◌, ◌∙◌, true, sym, ap, ℕ, Bool, map}
use Rattle.std.specs.List.{fold}
use Rattle.std.proofs.lemmas.List.Folds.{fold-map}
use Rattle.hexadecimal.specs.Line.{is_digit}
use Rattle.hexadecimal.proofs.Digits.{all_fold}
use Rattle.hexadecimal.proofs.all_digits.Goals as goal

-- the fold goes over the characters, and its closure asks each of them
pub returns : goal.returns
returns c =
    let l = c.args.line.now in
    let run = c.fold.ensures.runs in
    let f : Bool → ℕ → Bool = λ yes x. yes && is_digit x in
    let characters : map (λ y. y.now) run.0.items ≡ l = (c.iter.ensures.runs run.0 run.0.seen).4 run.2 ∙ ap (λ i. i.rest.now) run.1 ∙ search rules in
    let asked : c.fold.result ≡ fold (λ b x. f b x.now) true run.0.items = run.3 (λ b x. f b x.now) (λ b x r g called. search rules) in
    asked ∙ sym (fold-map f (λ x. x.now) true run.0.items) ∙ ap (fold f true) characters ∙ all_fold is_digit l true
