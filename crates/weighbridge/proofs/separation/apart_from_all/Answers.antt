use Rattle.std.proofs.Common.{rules}
use Rattle.std.proofs.lemmas.Iterator.{YieldsList-from_slice, cases_from_all}
use Rattle.tables.specs.Views.{table_view}
use Rattle.weighbridge.proofs.Searches.{each_use}
use Rattle.weighbridge.proofs.separation.apart_from_all.Goals as goal
use Rattle.weighbridge.specs.Crossings.{Apart}

pub returns : goal.returns
returns c =
    let m = table_view c.args.table.now in
    each_use c.args.others.now (λ a. Apart m a c.args.b) c.all.result
    (cases_from_all _ _ _ (λ x. Apart m x.what c.args.b) (λ x. Apart m x.what c.args.b → ⊥) c.all.ensures.ran (YieldsList-from_slice c.args.others.now cc) (λ x q k. search rules) (λ x q k. search rules))
