use Rattle.std.proofs.Common.{take}
use Rattle.model.specs.Narrowings.{Narrowed}
use Rattle.tables.specs.Views.{bounds_view, table_view}
use Rattle.weighbridge.specs.Crossings.{uses_of, Turns}
use Rattle.weighbridge.proofs.precedence.lower_turns.Given as goal

abbrev pub invariant-loop-a : goal.invariant-loop-a
invariant-loop-a l = Narrowed (Turns (table_view l.table) (uses_of (take l.a-index l.others)) l.b) (bounds_view l.initial.bounds) (bounds_view l.bounds)
