use Rattle.rules.proofs.Joins.{any_in_second}
use Rattle.rules.proofs.pairs.PairLimit.any_use.Goals as goal

pub returns-else-any_use : goal.returns-else-any_use
returns-else-any_use g c =
    any_in_second (g.A.Rule.width (g.A.Rule.settings c.args.self.now.left)) (g.A.Rule.uses c.args.self.now.left) (g.B.Rule.uses c.args.self.now.right) c.any_use.result c.any_use-else-any_use.result c.if-any_use.false c.any_use.ensures c.any_use-else-any_use.ensures
