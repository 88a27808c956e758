use Rattle.rules.proofs.Singles.{any_single}
use Rattle.rules.proofs.single.any_in_one.Goals as goal

pub returns : goal.returns
returns g c = any_single c.args.uses.now c.is_empty.result c.is_empty.ensures.count
