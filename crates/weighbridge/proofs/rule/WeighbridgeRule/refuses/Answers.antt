use Rattle.weighbridge.proofs.rule.WeighbridgeRule.refuses.Goals as goal

pub returns : goal.returns
returns c = rw c.as_slice.ensures.unnumbered at c.any_conflict.ensures
