use Rattle.std.proofs.Common.{rules, tests}
use Rattle.bunker.proofs.Searches.{decides_all}
use Rattle.bunker.proofs.bunkers.Bunker.has_room_at_points.Goals as goal
use Rattle.bunker.specs.Records.{uses_of}
use Rattle.bunker.specs.Rooms.{RoomAround}
use Rattle.std.proofs.lemmas.Iterator.{cases_from_all, YieldsList-from_slice}
use Rattle.tables.specs.Views.{table_view}

pub returns : goal.returns
returns c =
    let b = c.args.self.now in
    let xs = c.as_slice-uses.result.now in
    let P = RoomAround b.settings (uses_of b) (table_view c.args.table.now) in
    decides_all P b xs c.as_slice-uses.ensures.items c.all.result
    (cases_from_all _ _ c.all.result (λ x. P x.what) (λ x. P x.what → ⊥) c.all.ensures.ran (YieldsList-from_slice xs cc) (λ x q k. search (rules, tests)) (λ x q k. search (rules, tests)))
