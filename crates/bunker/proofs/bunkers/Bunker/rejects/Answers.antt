use Rattle.std.proofs.Common.{◌⊎◌}
use Rattle.bunker.proofs.Searches.{decides_refuses}
use Rattle.bunker.proofs.bunkers.Bunker.rejects.Goals as goal
use Rattle.bunker.specs.Records.{uses_of}
use Rattle.bunker.specs.Rooms.{NoRoomPoints, NoRoomBefore}
use Rattle.rules.proofs.Parts.{or_first, or_second}
use Rattle.tables.specs.Views.{table_view}

pub returns-then-has_reversed : goal.returns-then-has_reversed
returns-then-has_reversed c =
    let b = c.args.self.now in
    decides_refuses b.settings (uses_of b) (table_view c.args.table.now) _ (or_first c.has_reversed.result c.if-has_reversed.true c.has_reversed.ensures)

pub returns-else-has_reversed : goal.returns-else-has_reversed
returns-else-has_reversed c =
    let b = c.args.self.now in
    let m = table_view c.args.table.now in
    decides_refuses b.settings (uses_of b) m _ (or_second {Q = NoRoomPoints b.settings (uses_of b) m (uses_of b) ⊎ NoRoomBefore b.settings (uses_of b) m 10081} c.has_reversed.result c.lacks_room_somewhere.result c.if-has_reversed.false c.has_reversed.ensures c.lacks_room_somewhere.ensures)
