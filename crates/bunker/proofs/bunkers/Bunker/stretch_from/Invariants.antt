use Rattle.std.proofs.Common.{◌≡◌, take}
use Rattle.bunker.proofs.bunkers.Bunker.stretch_from.Given as goal
use Rattle.bunker.specs.Records.{uses_of}
use Rattle.bunker.specs.Stretches.{LongestFrom}
use Rattle.tables.specs.Views.{table_view}

abbrev pub invariant-loop-x : goal.invariant-loop-x
invariant-loop-x l = (l.stretch.0 ≡ l.first) × LongestFrom (table_view l.table) (take l.x-index (uses_of l.self)) l.first l.stretch.1.0
