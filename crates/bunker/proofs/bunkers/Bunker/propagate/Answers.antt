use Rattle.bunker.proofs.Steps.{gives_by}
use Rattle.bunker.proofs.bunkers.Bunker.propagate.Goals as goal
use Rattle.bunker.specs.Records.{uses_of}
use Rattle.tables.specs.Views.{bounds_view, table_view}

pub returns : goal.returns
returns c =
    let b = c.args.self.now in
    gives_by b.settings (uses_of b) (table_view c.args.table.now) (bounds_view c.args.bounds.now) (bounds_view c.propagate_order.new.bounds) (bounds_view c.propagate_points.new.bounds) (bounds_view c.propagate_minutes.new.bounds) c.propagate_order.ensures c.propagate_points.ensures c.propagate_minutes.ensures
