use Rattle.std.proofs.Common.{take}
use Rattle.bunker.proofs.bunkers.Bunker.propagate_at.Given as goal
use Rattle.bunker.specs.Following.{FollowsFor}
use Rattle.bunker.specs.Records.{uses_of}
use Rattle.model.specs.Narrowings.{Narrowed}
use Rattle.tables.specs.Views.{bounds_view, table_view}

abbrev pub invariant-loop-x : goal.invariant-loop-x
invariant-loop-x l = Narrowed (FollowsFor l.self.settings (uses_of l.self) (table_view l.day.here.table.now) (take l.x-index (uses_of l.self)) l.day.here.at) (bounds_view l.initial.bounds) (bounds_view l.bounds)
