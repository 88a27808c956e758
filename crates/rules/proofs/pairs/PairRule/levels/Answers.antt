use Rattle.std.proofs.Common.{◌≡◌, arith}
use Rattle.std.proofs.lemmas.Bool.Decides.{nat_tests}
use Rattle.model.specs.Meanings.{both}
use Rattle.tables.specs.Views.{table_view}
use Rattle.rules.proofs.Joins.{handed}
use Rattle.rules.proofs.pairs.PairRule.levels.Goals as goal

pub returns-in-None : goal.returns-in-None
returns-in-None g c =
    let x = c.args.self.now in
    let n = g.A.Rule.width (g.A.Rule.settings x.left) in
    handed g.A.Rule g.B.Rule x.left x.right (g.met.A.Rule.beyond x.left) (λ r s. c.levels.result ≡ (both n r s).levels (table_view c.args.table.now) c.args.place c.args.at) (grind (arith, nat_tests, c.levels.ensures, c.past.ensures))
