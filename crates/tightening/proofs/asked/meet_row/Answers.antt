use Rattle.std.proofs.Common.{arith}
use Rattle.std.proofs.lemmas.Int.{ints}
use Rattle.tables.specs.Views.{bounds_view, table_view}
use Rattle.tightening.proofs.Passes.{row_more}
use Rattle.tightening.proofs.asked.meet_row.Goals as goal

pub loop-j-preserved : goal.loop-j-preserved
loop-j-preserved c =
    row_more (bounds_view c.args.bounds.now) c.args.i c.loop-j.j _ (table_view c.args.table.now) (table_view c.loop-j.table) (table_view c.ask.new.table)
    (omega (arith, ints, c.get.ensures)) c.loop-j.invariant c.in_ok-ask.ensures
