use Rattle.std.proofs.Common.{rules, tests}
use Rattle.bunker.proofs.Searches.{decides_any}
use Rattle.bunker.proofs.bunkers.Bunker.lacks_room_at_point.Goals as goal
use Rattle.bunker.specs.Records.{uses_of}
use Rattle.bunker.specs.Rooms.{NoRoomAround}
use Rattle.std.proofs.lemmas.Iterator.{cases_from_any, YieldsList-from_slice}
use Rattle.tables.specs.Views.{table_view}

pub returns : goal.returns
returns c =
    let b = c.args.self.now in
    let xs = c.as_slice-uses.result.now in
    let P = NoRoomAround b.settings (uses_of b) (table_view c.args.table.now) in
    decides_any P b xs c.as_slice-uses.ensures.items c.any.result
    (cases_from_any _ _ c.any.result (λ x. P x.what) (λ x. P x.what → ⊥) c.any.ensures.ran (YieldsList-from_slice xs cc) (λ x q k. search (rules, tests)) (λ x q k. search (rules, tests)))
