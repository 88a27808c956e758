use Rattle.std.proofs.Common.{rules}
use Rattle.std.proofs.lemmas.Iterator.{YieldsList-from_slice, cases_from_any}
use Rattle.tables.specs.Views.{table_view}
use Rattle.weighbridge.proofs.Searches.{some_use}
use Rattle.weighbridge.proofs.conflicts.overlaps_one.Goals as goal
use Rattle.weighbridge.specs.Crossings.{Overlap}

pub returns : goal.returns
returns c =
    let m = table_view c.args.table.now in
    some_use c.args.others.now (λ a. Overlap m a c.args.b) c.any.result
    (cases_from_any _ _ _ (λ x. Overlap m x.what c.args.b) (λ x. Overlap m x.what c.args.b → ⊥) c.any.ensures.ran (YieldsList-from_slice c.args.others.now cc) (λ x q k. search rules) (λ x q k. search rules))
