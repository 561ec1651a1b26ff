use Rattle.std.proofs.Common.{◌≡◌, ◌≢◌, sym, ◌∙◌, rules}
use borrow.Author.Tests.{tests}
use Rattle.std.proofs.lemmas.Iterator.{YieldsList-from_slice, IsFirst-from_position, index_from_first}
use Rattle.line_split.specs.Lines.{line_feed, line_length}
use Rattle.line_split.proofs.Lines.{of_none, at_feed, past_other}
use Rattle.line_split.proofs.line_length.Goals as goal

pub returns : goal.returns
returns c =
    let first =
    IsFirst-from_position _ _ c.position.result (λ x. x ≡ line_feed) (λ x. x ≢ line_feed) c.position.ensures.ran
    (YieldsList-from_slice c.args.s.now (search rules)) (λ x q k. search (rules, tests)) (λ x q k. search (rules, tests)) in
    let e = index_from_first line_length (λ x. x ≡ line_feed) (λ x. x ≢ line_feed) of_none at_feed past_other c.args.s.now c.position.result first in
    (c.unwrap_or.ensures ∙ sym e, search rules)
