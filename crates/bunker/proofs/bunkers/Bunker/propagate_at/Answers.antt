use Rattle.std.proofs.Common.{get_or}
use Rattle.bunker.proofs.Steps.{narrowed_more}
use Rattle.bunker.proofs.Turns.{blank, turn}
use Rattle.bunker.proofs.bunkers.Bunker.propagate_at.Goals as goal
use Rattle.bunker.specs.Records.{uses_of}
use Rattle.bunker_laws.specs.Bunkers.{Follows}
use Rattle.tables.specs.Views.{bounds_view, table_view}

pub propagate_use-requires-clause-stands : goal.propagate_use-requires-clause-stands
propagate_use-requires-clause-stands c = (turn c.args.self.now c.as_slice-x-items.result.now c.loop-x.x-index c.as_slice-x-items.ensures.items c.loop-x-test.true).here

pub loop-x-preserved : goal.loop-x-preserved
loop-x-preserved c =
    let b = c.args.self.now in
    let xs = c.as_slice-x-items.result.now in
    let i = c.loop-x.x-index in
    let t = turn b xs i c.as_slice-x-items.ensures.items c.loop-x-test.true in
    narrowed_more (Follows b.settings (uses_of b) (table_view c.args.day.here.table.now) c.args.day.here.at) (uses_of b) i (get_or xs i blank).what (bounds_view c.args.bounds.now) (bounds_view c.loop-x.bounds) (bounds_view c.propagate_use.new.bounds) t c.loop-x.invariant c.propagate_use.ensures
