use Rattle.std.proofs.Common.{sym, ◌∙◌, subst, arith}
use Rattle.model.specs.Closed.{SlipsHeld, Tightened}
use Rattle.promise_laws.specs.Held.{UsesHeld}
use Rattle.register.specs.Standing.{stands}
use Rattle.tightening.specs.Meant.{meaning_of}
use Rattle.sheet.proofs.CallEnds.{vec_len-labels}
use Rattle.tables.specs.Views.{table_view}
use Rattle.sheet.proofs.sheets.Sheet.tighten.Goals as goal

pub returns-in-Some-clause-shows : goal.returns-in-Some-clause-shows
returns-in-Some-clause-shows g c held =
    let x = c.args.self.now in
    let us = g.L.Rule.uses x.limits in
    let n = c.len.ensures ∙ vec_len-labels x.labels in
    let len = c.len.ensures in
    let slips : SlipsHeld c.len.result (stands x.slips) = λ k s e. (omega (arith, x.from_held k s e), omega (arith, x.to_held k s e)) in
    (subst (λ k. Tightened x.horizon k (stands x.slips) (meaning_of g.L.Rule x.limits) (table_view c.in-Some.table)) n (c.in-Some.ensures.greatest (omega (arith, x.few)) x.near (subst (λ k. UsesHeld k us) (sym n) held) slips), c.vouches-vouched.ensures)
