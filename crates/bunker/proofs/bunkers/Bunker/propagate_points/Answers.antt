use Rattle.std.proofs.Common.{get_or}
use Rattle.bunker.proofs.Steps.{narrowed_more, follows_there}
use Rattle.bunker.proofs.Turns.{blank, turn}
use Rattle.bunker.proofs.bunkers.Bunker.propagate_points.Goals as goal
use Rattle.bunker.specs.Following.{FollowsAround}
use Rattle.bunker.specs.Records.{uses_of}
use Rattle.model.proofs.Narrowings.{narrowed_then}
use Rattle.model.specs.declared.moments.Moment.TheVariants.{Point}
use Rattle.tables.specs.Views.{bounds_view, table_view}

pub loop-x-preserved : goal.loop-x-preserved
loop-x-preserved c =
    let b = c.args.self.now in
    let xs = c.as_slice-x-items.result.now in
    let i = c.loop-x.x-index in
    let turned = turn b xs i c.as_slice-x-items.ensures.items c.loop-x-test.true in
    let before = bounds_view c.loop-x.bounds in
    let between = bounds_view c.propagate_at.new.bounds in
    let after = bounds_view c.propagate_at-in-loop-x.new.bounds in
    let u = (get_or xs i blank).what in
    let t = c.args.table.now in
    let first = follows_there b t _ (Point u.first) _ before between c.new.ensures.table c.new.ensures.at c.propagate_at.ensures in
    let last = follows_there b t _ (Point u.last) _ between after c.new-in-loop-x.ensures.table c.new-in-loop-x.ensures.at c.propagate_at-in-loop-x.ensures in
    let here = narrowed_then _ _ before between after first last in
    narrowed_more (FollowsAround b.settings (uses_of b) (table_view c.args.table.now)) (uses_of b) i u (bounds_view c.args.bounds.now) before after turned c.loop-x.invariant here
