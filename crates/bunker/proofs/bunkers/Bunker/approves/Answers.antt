use Rattle.bunker.proofs.Searches.{decides_vouches}
use Rattle.bunker.proofs.bunkers.Bunker.approves.Goals as goal
use Rattle.bunker.specs.Records.{uses_of}
use Rattle.rules.proofs.Parts.{and_second}
use Rattle.tables.specs.Views.{table_view}

pub returns-then-has_order : goal.returns-then-has_order
returns-then-has_order c =
    let b = c.args.self.now in
    decides_vouches b.settings (uses_of b) (table_view c.args.table.now) _ (and_second c.has_order.result c.has_room_at_points.result c.if-has_order.true c.has_order.ensures c.has_room_at_points.ensures)
