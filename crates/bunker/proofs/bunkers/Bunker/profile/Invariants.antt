use Rattle.std.proofs.Common.{take}
use Rattle.bunker.proofs.bunkers.Bunker.profile.Given as goal
use Rattle.bunker.specs.Records.{uses_of}
use Rattle.bunker.specs.Rooms.{AreLevels}
use Rattle.tables.specs.Views.{table_view}

abbrev pub invariant-loop-x : goal.invariant-loop-x
invariant-loop-x l = AreLevels l.self.settings (take l.x-index (uses_of l.self)) (table_view l.here.table.now) l.here.at l.highest l.lowest
