use Rattle.std.proofs.Common.{rules, arith}
use Rattle.rules.proofs.Singles.{answered}
use Rattle.rules.proofs.single.take_one.Goals as goal

pub returns-clause-answer : goal.returns-clause-answer
returns-clause-answer g c =
    answered c.args.uses.now c.args.place c.args.number c.args.what c.args.fits (omega arith) (omega arith) (omega arith) c.if-not-fits.false c.insert.new.self c.insert.result c.map_err.result c.insert.ensures c.map_err.ensures.cases (λ why e h. search rules)
