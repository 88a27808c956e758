use Rattle.std.proofs.Common.{◌≡◌}
use Rattle.tables.specs.Views.{bounds_view}
use Rattle.tables.proofs.Starts.{part_view}
use Rattle.tables.proofs.tables.start.start.Given as goal

abbrev pub invariant-loop-p : goal.invariant-loop-p
invariant-loop-p l = bounds_view l.bounds ≡ part_view l.points l.horizon l.p
