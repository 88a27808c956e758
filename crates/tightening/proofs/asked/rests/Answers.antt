use Rattle.std.proofs.Common.{ℕ, refl, arith, rules}
use Rattle.std.proofs.lemmas.Iterator.{cases_from_all, YieldsList-from_range}
use borrow.Author.Tests.{tests}
use Rattle.tables.specs.Views.{bounds_view, table_view}
use Rattle.tightening.specs.Asked.{RowRests}
use Rattle.tightening.proofs.Passes.{decides_below}
use Rattle.tightening.proofs.asked.rests.Goals as goal

pub returns : goal.returns
returns c =
    let m = table_view c.args.table.now in
    let keeps : ℕ → Type 0 = λ i. RowRests m (bounds_view c.args.bounds.now) i m.points in
    decides_below _ keeps _ (cases_from_all _ _ _ keeps (λ i. keeps i → ⊥) c.all.ensures.ran (YieldsList-from_range 0 c.points.result _ refl (omega arith)) (λ x q k. search (rules, tests)) (λ x q k. search (rules, tests)))
