use Rattle.std.proofs.Common.{arith, rules}
use Rattle.std.specs.Prelude.{◌==◌}
use Rattle.std.proofs.lemmas.Iterator.{YieldsList-from_slice}
use Rattle.std.proofs.lemmas.Iterator.Consumers.{count_from_yields_List, YieldsList-from_filter}
use Rattle.std.proofs.lemmas.List.Sums.{length-filter}
use Rattle.std.proofs.lemmas.List.Splits.{length-slice_split}
use Rattle.dayline.proofs.Wholes.{parted}
use Rattle.dayline.proofs.parts.count.Goals as goal
use borrow.Author.Tests.{tests}

pub returns-clause-value : goal.returns-clause-value
returns-clause-value c =
    let at = c.args.at in
    let text = c.args.text.now in
    let n = count_from_yields_List c.filter.result c.count.result c.count.ensures.ran (YieldsList-from_filter _ (λ b. b == at) (YieldsList-from_slice text cc) c.filter.ensures.closure (λ x r q k. search (rules, tests))) in
    omega (arith, n, length-filter (λ b. b == at) text, length-slice_split (λ b. b == at) text)

pub returns-clause-parted : goal.returns-clause-parted
returns-clause-parted c = parted c.args.at c.args.text.now
