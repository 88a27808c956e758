use Rattle.tables.specs.Rows.{Relaxes}
use Rattle.tables.proofs.bounds.relax.relax_row.Given as goal

abbrev pub invariant-loop-j : goal.invariant-loop-j
invariant-loop-j l = Relaxes l.first l.over l.j l.initial.row l.row
