use Rattle.std.proofs.Common.{rules, ◌≡◌, ◌&&◌, ◌/◌, ◌∙◌, true, sym, ap, ap₂, List, ℕ, Bool, length, map, drop, ◌*◌}
use Rattle.std.specs.List.{fold}
use Rattle.std.specs.Simd.{first_chunks}
use Rattle.std.proofs.lemmas.List.Folds.{fold-map}
use Rattle.page.specs.Page.{unused, only}
use Rattle.page.proofs.Scan.{parts_fold, parts_and_rest}
use Rattle.page.proofs.are_unused.Goals as goal

-- the fold goes over the parts, and its closure asks each of them
pub returns : goal.returns
returns c =
    let s = c.args.s.now in
    let k = length s / 512 in
    let run = c.fold.ensures.runs in
    let f : Bool → List ℕ → Bool = λ b t. b && only unused t in
    let parts : map (λ y. y.now) run.0.items ≡ first_chunks 512 k s = (c.iter.ensures.runs run.0 run.0.seen).4 run.2 ∙ ap (λ i. i.rest.now) run.1 ∙ search rules in
    let asked : c.fold.result ≡ fold (λ b x. f b x.now) true run.0.items = run.3 (λ b x. f b x.now) (λ b x r g called. search rules) in
    let folded : c.fold.result ≡ fold f true (first_chunks 512 k s) = asked ∙ sym (fold-map f (λ x. x.now) true run.0.items) ∙ ap (fold f true) parts in
    let rest : c.is_unused.result ≡ only unused (drop (k * 512) s) = search rules in
    ap₂ ◌&&◌ (folded ∙ parts_fold unused 512 k s true) rest ∙ parts_and_rest unused 512 k s
