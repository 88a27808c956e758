use Rattle.std.proofs.Common.{take}
use Rattle.bunker.proofs.bunkers.Bunker.propagate_order.Given as goal
use Rattle.bunker.specs.Following.{OrderBounds}
use Rattle.bunker.specs.Records.{uses_of}
use Rattle.model.specs.Narrowings.{Narrowed}
use Rattle.tables.specs.Views.{bounds_view}

abbrev pub invariant-loop-x : goal.invariant-loop-x
invariant-loop-x l = Narrowed (OrderBounds (take l.x-index (uses_of l.self))) (bounds_view l.initial.bounds) (bounds_view l.bounds)
