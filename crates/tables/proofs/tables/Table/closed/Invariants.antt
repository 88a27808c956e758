use Rattle.tables.specs.Views.{bounds_view}
use Rattle.tables.proofs.Closing.{Closing}
use Rattle.tables.proofs.tables.Table.closed.Given as goal

abbrev pub invariant-loop-k : goal.invariant-loop-k
invariant-loop-k l = Closing l.self l.k (bounds_view l.bounds)
