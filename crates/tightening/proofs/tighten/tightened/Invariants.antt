use Rattle.std.proofs.Common.{◌≡◌}
use Rattle.model.specs.Closed.{SlipsHeld}
use Rattle.promise_laws.specs.Held.{UsesHeld}
use Rattle.register.specs.Standing.{stands}
use Rattle.tables.specs.Totals.{total}
use Rattle.tables.specs.Views.{table_view}
use Rattle.tightening.specs.Meant.{meaning_of}
use Rattle.tightening.specs.Rounds.{Underway}
use Rattle.tightening.proofs.tighten.tightened.Given as goal

abbrev pub invariant-loop-found : goal.invariant-loop-found
invariant-loop-found g l =
    ((table_view l.table).points ≡ l.points)
    × (UsesHeld l.points (g.L.Rule.uses l.limits) → SlipsHeld l.points (stands l.slips) → Underway l.horizon l.points (stands l.slips) (meaning_of g.L.Rule l.limits) (table_view l.table))

abbrev pub decreases-loop-found : goal.decreases-loop-found
decreases-loop-found g l = total (table_view l.table)
