use Rattle.std.proofs.Common.{sym, ◌∙◌, rules}
use Rattle.octets.specs.Octets.{Octets}
use Rattle.bench_query.proofs.Plans.{refuses, too-full, tells}
use Rattle.bench_query.proofs.changes.Goals as goal

pub returns-then-has_place : goal.returns-then-has_place
unfolding Octets
returns-then-has_place c = λ page l g.
    let a = c.args in
    let octets-rec : Octets a.rec.now = search rules in
    let octets-s : Octets a.s.now = search rules in
    rw c.leaves_alone.ensures
    (tells a.rec.now c.requires.0 c.requires.1 page l g a.s.now a.count c.in-Ok.ensures c.load_numbers-n.ensures octets-rec octets-s
    (sym c.has_place.ensures ∙ c.if-has_place.true))

pub returns-else-has_place : goal.returns-else-has_place
returns-else-has_place c = λ page l g.
    let a = c.args in
    c.if-has_place.false
    ∙ too-full a.rec.now c.requires.0 c.requires.1 page l g a.s.now a.count c.in-Ok.ensures (sym c.has_place.ensures ∙ c.if-has_place.false)

pub returns-in-Err : goal.returns-in-Err
returns-in-Err c = λ page l g. let a = c.args in refuses a.rec.now c.requires.0 c.requires.1 page l g a.s.now a.count c.in-Err.field-0 c.in-Err.ensures
