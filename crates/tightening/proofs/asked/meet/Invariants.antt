use Rattle.model.specs.Narrowings.{Narrowed}
use Rattle.tables.specs.Views.{bounds_view, table_view}
use Rattle.tightening.specs.Asked.{RowsBounds}
use Rattle.tightening.proofs.asked.meet.Given as goal

abbrev pub invariant-loop-i : goal.invariant-loop-i
invariant-loop-i l = Narrowed (RowsBounds (bounds_view l.bounds) (table_view l.initial.table).points l.i) (table_view l.initial.table) (table_view l.table)
