use Rattle.model.specs.Narrowings.{Narrowed}
use Rattle.tables.specs.Views.{bounds_view, table_view}
use Rattle.tightening.specs.Asked.{RowBounds}
use Rattle.tightening.proofs.asked.meet_row.Given as goal

abbrev pub invariant-loop-j : goal.invariant-loop-j
invariant-loop-j l = Narrowed (RowBounds (bounds_view l.bounds) l.i l.j) (table_view l.initial.table) (table_view l.table)
