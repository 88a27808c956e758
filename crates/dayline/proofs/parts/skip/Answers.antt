use Rattle.std.proofs.Common.{◌∙◌, add-one, arith}
use Rattle.dayline.specs.Parts.{parts}
use Rattle.dayline.proofs.Pieces.{next_part, length_before}
use Rattle.dayline.proofs.parts.skip.Goals as goal

pub returns-in_err-rest : goal.returns-in_err-rest
returns-in_err-rest c =
    let ps = parts c.args.at c.args.text.now in
    rw c.from_residual.ensures (omega (arith, length_before c.loop-i._i ps _ (c.loop-i.invariant.0 ∙ c.in_err-rest.ensures) (omega arith), c.loop-i-test.true))

pub loop-i-preserved : goal.loop-i-preserved
loop-i-preserved c =
    let ps = parts c.args.at c.args.text.now in
    let more = next_part c.loop-i._i ps _ _ (c.loop-i.invariant.0 ∙ c.in_ok-rest.ensures.0) in
    rw add-one (more.0, omega (arith, more.1, c.loop-i.invariant.1, c.in_ok-rest.ensures.1))
