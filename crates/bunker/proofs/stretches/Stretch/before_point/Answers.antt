use Rattle.std.proofs.Common.{◌∙◌, arith}
use Rattle.bunker.proofs.Runs.{run_point}
use Rattle.bunker.proofs.stretches.Stretch.before_point.Goals as goal
use Rattle.std.proofs.lemmas.Int.{ints}
use Rattle.tables.specs.Views.{table_view}

pub returns : goal.returns
returns c =
    let by = c.before_change.ensures in
    let after = c.before_change-2.ensures in
    let deep = c.args.table.now.low c.args.p 0 in
    record {
      first = after.first ∙ by.first;
      last = run_point (table_view c.args.table.now) c.args.p c.args.self.first c.args.self.last _ _ _ _ _ by.last by.first after.last (omega (arith, ints)) (omega (arith, ints));
    }
