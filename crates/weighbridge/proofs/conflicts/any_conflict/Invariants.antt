use Rattle.std.proofs.Common.{take}
use Rattle.tables.specs.Views.{table_view}
use Rattle.weighbridge.specs.Crossings.{uses_of}
use Rattle.weighbridge_laws.specs.Weighbridges.{Refuses}
use Rattle.weighbridge.proofs.conflicts.any_conflict.Given as goal

abbrev pub invariant-loop-i : goal.invariant-loop-i
invariant-loop-i l = Refuses (uses_of (take l.i l.uses)) (table_view l.table) → ⊥
