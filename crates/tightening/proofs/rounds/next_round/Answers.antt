use Rattle.std.proofs.lemmas.Bool.Decides.{not_from_Decides}
use Rattle.tightening.proofs.RoundSteps.{at_ok, at_err, none_closed_below, refused_below, rested, too_low_below, fell}
use Rattle.tightening.proofs.rounds.next_round.Goals as goal

pub returns-in_err-closed : goal.returns-in_err-closed
returns-in_err-closed g c = rw c.from_residual.ensures (none_closed_below _ _ _ c.in_err-closed.ensures)

pub returns-then-refuses : goal.returns-then-refuses
returns-then-refuses g c = refused_below _ _ (g.met.L.Rule.lawful _ _) _ _ c.in_ok-closed.ensures (c.refuses.ensures.0 c.if-refuses.true)

pub returns-then-rests : goal.returns-then-rests
returns-then-rests g c =
    rested _ _ (g.met.L.Rule.lawful _ _) _ _ c.in_ok-closed.ensures _ _ c.to_bounds-bounds.ensures c.lower.ensures
    (not_from_Decides c.refuses.result c.refuses.ensures c.if-refuses.false) (c.rests.ensures.0 c.if-rests.true)

pub returns : goal.returns
returns g c =
    fell _ _ (g.met.L.Rule.lawful _ _) _ _ c.in_ok-closed.ensures _ _ c.to_bounds-bounds.ensures c.lower.ensures
    c.meet.new.table (at_ok _ _ c.meet.result c.in_ok-ok.ensures.variant c.meet.ensures) (not_from_Decides c.rests.result c.rests.ensures c.if-rests.false)

pub returns-in_err-ok : goal.returns-in_err-ok
returns-in_err-ok g c =
    rw c.from_residual-in_err-ok.ensures
    (too_low_below _ _ (g.met.L.Rule.lawful _ _) _ _ c.in_ok-closed.ensures _ _ c.to_bounds-bounds.ensures c.lower.ensures (at_err _ _ c.meet.result c.in_err-ok.ensures.variant c.meet.ensures))
