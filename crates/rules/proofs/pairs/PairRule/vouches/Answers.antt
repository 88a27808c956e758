use Rattle.std.proofs.Common.{Decides}
use Rattle.tables.specs.Views.{table_view}
use Rattle.rules.proofs.Joins.{handed}
use Rattle.rules.proofs.Parts.{and_first, and_second}
use Rattle.rules.proofs.pairs.PairRule.vouches.Goals as goal

pub returns-then-vouches : goal.returns-then-vouches
returns-then-vouches g c =
    let x = c.args.self.now in
    let m = table_view c.args.table.now in
    handed g.A.Rule g.B.Rule x.left x.right (g.met.A.Rule.beyond x.left) (λ r s. Decides c.vouches-then-vouches.result (r.vouches m × s.vouches m))
    (and_second c.vouches.result _ c.if-vouches.true c.vouches.ensures c.vouches-then-vouches.ensures)

pub returns-else-vouches : goal.returns-else-vouches
returns-else-vouches g c =
    let x = c.args.self.now in
    let m = table_view c.args.table.now in
    handed g.A.Rule g.B.Rule x.left x.right (g.met.A.Rule.beyond x.left) (λ r s. Decides c.vouches.result (r.vouches m × s.vouches m)) (and_first _ c.if-vouches.false c.vouches.ensures)
