use Rattle.std.proofs.Common.{sym, ◌∙◌}
use Rattle.endpoint.proofs.Sounds.{none_held_lem, some-held}
use Rattle.endpoint.proofs.held_ok.Goals as goal

pub returns-then-is_clear : goal.returns-then-is_clear
returns-then-is_clear c =
    let h = c.args.held in
    c.is_clear-then-is_clear.ensures
    ∙ none_held_lem c.args.state c.args.delivered h.lengths.now h.blocks.now h.eight_lengths h.eight_blocks (sym c.is_clear.ensures ∙ c.if-is_clear.true)

pub returns : goal.returns
returns c =
    let h = c.args.held in
    rw (c.held_numbers_ok.ensures, c.places_ok.ensures)
    (some-held c.args.state c.args.delivered h.lengths.now h.blocks.now h.eight_lengths h.eight_blocks (sym c.is_clear.ensures ∙ c.if-is_clear.false))
