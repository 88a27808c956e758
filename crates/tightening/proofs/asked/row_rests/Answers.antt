use Rattle.std.proofs.Common.{ℕ, refl, ◌≤ℤ◌, arith, rules}
use Rattle.std.proofs.lemmas.Iterator.{cases_from_all, YieldsList-from_range}
use borrow.Author.Tests.{tests}
use Rattle.tables.specs.Views.{bounds_view, table_view}
use Rattle.tightening.proofs.Passes.{decides_below}
use Rattle.tightening.proofs.asked.row_rests.Goals as goal

pub returns : goal.returns
returns c =
    let keeps : ℕ → Type 0 = λ j. (table_view c.args.table.now).at c.args.i j ≤ℤ (bounds_view c.args.bounds.now).at c.args.i j in
    decides_below _ keeps _ (cases_from_all _ _ _ keeps (λ j. keeps j → ⊥) c.all.ensures.ran (YieldsList-from_range 0 c.points.result _ refl (omega arith)) (λ x q k. search (rules, tests)) (λ x q k. search (rules, tests)))
