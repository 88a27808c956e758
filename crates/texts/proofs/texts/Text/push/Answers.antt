use Rattle.std.proofs.Common.{arith}
use Rattle.texts.proofs.Cuts.{cut_none, cut_full}
use Rattle.texts.proofs.texts.Text.push.Goals as goal

pub returns : goal.returns
returns c = rw (← c.self.view_is) (grind (arith, cut_none, cut_full))
