use Rattle.std.proofs.Common.{◌⊎◌, Decides}
use Rattle.tables.specs.Views.{table_view}
use Rattle.rules.proofs.Joins.{handed}
use Rattle.rules.proofs.Parts.{or_first, or_second}
use Rattle.rules.proofs.pairs.PairRule.refuses.Goals as goal

pub returns-then-refuses : goal.returns-then-refuses
returns-then-refuses g c =
    let x = c.args.self.now in
    let m = table_view c.args.table.now in
    handed g.A.Rule g.B.Rule x.left x.right (g.met.A.Rule.beyond x.left) (λ r s. Decides c.refuses.result (r.refuses m ⊎ s.refuses m)) (or_first _ c.if-refuses.true c.refuses.ensures)

pub returns-else-refuses : goal.returns-else-refuses
returns-else-refuses g c =
    let x = c.args.self.now in
    let m = table_view c.args.table.now in
    handed g.A.Rule g.B.Rule x.left x.right (g.met.A.Rule.beyond x.left) (λ r s. Decides c.refuses-else-refuses.result (r.refuses m ⊎ s.refuses m))
    (or_second c.refuses.result _ c.if-refuses.false c.refuses.ensures c.refuses-else-refuses.ensures)
