use Rattle.std.proofs.Common.{◌≡◌}
use Rattle.bunker.proofs.bunkers.Bunker.propagate_minutes.Given as goal
use Rattle.bunker.specs.Following.{FollowsBefore}
use Rattle.bunker.specs.Records.{uses_of}
use Rattle.model.specs.Narrowings.{Narrowed}
use Rattle.tables.specs.Views.{bounds_view, table_view}

abbrev pub invariant-loop-stretch : goal.invariant-loop-stretch
invariant-loop-stretch l =
    (goal.iterator-loop-stretch).can_next l.stretch-iterator
    × (goal.iterator-loop-stretch).is_finite l.stretch-iterator
    × (l.stretch-iterator.bunker.now ≡ l.self)
    × (l.stretch-iterator.table.now ≡ l.table)
    × Narrowed (FollowsBefore l.self.settings (uses_of l.self) (table_view l.table) l.stretch-iterator.first) (bounds_view l.initial.bounds) (bounds_view l.bounds)
