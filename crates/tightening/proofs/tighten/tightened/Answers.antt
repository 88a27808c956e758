use Rattle.std.proofs.Common.{◌∙◌, subst}
use Rattle.tightening.specs.Rounds.{Rounded}
use Rattle.tightening.proofs.Ways.{begun, none_known, lower_underway, rest_tightened, none_left}
use Rattle.tightening.proofs.tighten.tightened.Goals as goal

pub returns-in_err-table-clause-greatest : goal.returns-in_err-table-clause-greatest
returns-in_err-table-clause-greatest g c few near held known = rw c.from_residual.ensures (none_known c.args.slips.now _ _ _ few near c.in_err-table.ensures)

pub loop-found-init : goal.loop-found-init
loop-found-init g c = (c.in_ok-table.ensures.points, λ held known. begun c.args.slips.now _ _ _ _ known c.in_ok-table.ensures)

pub returns-in-Rest : goal.returns-in-Rest
returns-in-Rest g c =
    let rest = subst (Rounded _ _ _) c.in-Rest.is c.in_ok-found.ensures in
    let way = c.loop-found.invariant in
    record {
      points = rest.under.same ∙ way.0;
      greatest = λ few near held known. rest_tightened _ _ _ _ _ held _ (way.1 held known) known _ rest;
    }

pub loop-found-preserved : goal.loop-found-preserved
loop-found-preserved g c =
    let fall = subst (Rounded _ _ _) c.in-Lower.is c.in_ok-found.ensures in
    let way = c.loop-found.invariant in
    (fall.under.same ∙ way.0, λ held known. lower_underway _ _ _ _ _ held _ (way.1 held known) known _ fall)

pub returns-in_err-found-clause-greatest : goal.returns-in_err-found-clause-greatest
returns-in_err-found-clause-greatest g c few near held known = rw c.from_residual-in_err-found.ensures (none_left _ _ _ _ _ held _ (c.loop-found.invariant.1 held known) c.in_err-found.ensures)
