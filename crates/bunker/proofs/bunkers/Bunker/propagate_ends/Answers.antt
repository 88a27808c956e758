use Rattle.bunker.proofs.Steps.{follows_there}
use Rattle.bunker.proofs.bunkers.Bunker.propagate_ends.Goals as goal
use Rattle.model.proofs.Narrowings.{narrowed_then}
use Rattle.model.specs.declared.moments.Moment.TheVariants.{Minute}
use Rattle.tables.specs.Views.{bounds_view}

pub returns : goal.returns
returns c =
    let b = c.args.self.now in
    let t = c.args.table.now in
    let before = bounds_view c.args.bounds.now in
    let between = bounds_view c.propagate_at.new.bounds in
    let after = bounds_view c.propagate_at-2.new.bounds in
    let first = follows_there b t _ (Minute c.args.stretch.first) _ before between c.new.ensures.table c.new.ensures.at c.propagate_at.ensures in
    let last = follows_there b t _ (Minute c.args.stretch.last) _ between after c.new-2.ensures.table c.new-2.ensures.at c.propagate_at-2.ensures in
    narrowed_then _ _ before between after first last
