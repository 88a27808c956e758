use Rattle.std.proofs.Common.{◌⊎◌}
use Rattle.model.proofs.Narrowings.{narrowed_then}
use Rattle.model.specs.Narrowings.{Narrowed}
use Rattle.tables.specs.Views.{bounds_view, table_view}
use Rattle.rules.proofs.Joins.{handed}
use Rattle.rules.proofs.pairs.PairRule.lower.Goals as goal

pub returns : goal.returns
returns g c =
    let x = c.args.self.now in
    let m = table_view c.args.table.now in
    let before = bounds_view c.args.bounds.now in
    let after = bounds_view c.lower-2.new.bounds in
    handed g.A.Rule g.B.Rule x.left x.right (g.met.A.Rule.beyond x.left) (λ r s. Narrowed (λ i j b. r.gives m i j b ⊎ s.gives m i j b) before after)
    (narrowed_then _ _ before (bounds_view c.lower.new.bounds) after c.lower.ensures c.lower-2.ensures)
