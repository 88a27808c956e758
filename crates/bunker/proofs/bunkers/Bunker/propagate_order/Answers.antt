use Rattle.std.proofs.Common.{get_or}
use Rattle.bunker.proofs.Steps.{narrowed_more}
use Rattle.bunker.proofs.Turns.{blank, turn}
use Rattle.bunker.proofs.bunkers.Bunker.propagate_order.Goals as goal
use Rattle.bunker.specs.Following.{OrderBound}
use Rattle.bunker.specs.Records.{uses_of}
use Rattle.tables.specs.Views.{bounds_view}

pub loop-x-preserved : goal.loop-x-preserved
loop-x-preserved c =
    let b = c.args.self.now in
    let xs = c.as_slice-x-items.result.now in
    let i = c.loop-x.x-index in
    let t = turn b xs i c.as_slice-x-items.ensures.items c.loop-x-test.true in
    narrowed_more OrderBound (uses_of b) i (get_or xs i blank).what (bounds_view c.args.bounds.now) (bounds_view c.loop-x.bounds) (bounds_view c.require_order.new.bounds) t c.loop-x.invariant c.require_order.ensures
