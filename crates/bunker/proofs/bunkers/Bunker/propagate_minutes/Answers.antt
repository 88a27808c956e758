use Rattle.std.proofs.Common.{◌∙◌}
use Rattle.bunker.proofs.AlikeMinutes.{narrowed_next}
use Rattle.bunker.proofs.bunkers.Bunker.propagate_minutes.Goals as goal
use Rattle.tables.specs.Views.{bounds_view}

pub loop-stretch-preserved : goal.loop-stretch-preserved
loop-stretch-preserved c =
    let kept = c.loop-stretch.invariant in
    let gave = c.in-Some.ensures.steps in
    (tt, tt, gave.bunker ∙ kept.2, gave.table ∙ kept.3, narrowed_next c.args.self.now c.args.table.now c.loop-stretch.stretch-iterator c.next.new.self c.in-Some.stretch kept.2 kept.3 gave (bounds_view c.args.bounds.now) (bounds_view c.loop-stretch.bounds) (bounds_view c.propagate_ends.new.bounds) kept.4 c.propagate_ends.ensures)
