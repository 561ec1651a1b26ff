use Rattle.link.proofs.Carries.{carried-out, kept, cleared}
use Rattle.link.proofs.store.Goals as goal

pub returns-then-keeps : goal.returns-then-keeps
returns-then-keeps c =
    let a = c.args in
    let all = c.keeps.ensures c.if-keeps.true in
    kept a.rec.now a.p a.block.now c.requires.0 all.0 all.1 c.requires.1 c.store_numbers.ensures

pub returns-then-clears : goal.returns-then-clears
returns-then-clears c =
    let a = c.args in
    let all = c.clears.ensures c.if-clears.true in
    cleared a.rec.now a.p a.block.now c.requires.0 all.0 all.1 c.store_numbers.ensures c.clear.ensures

pub returns : goal.returns
returns c =
    let a = c.args in
    carried-out a.rec.now a.p a.block.now c.requires.0 c.store_numbers.ensures
    c.change_places.ensures c.change_places-2.ensures c.change_places-3.ensures c.change_places-4.ensures c.requires.1
