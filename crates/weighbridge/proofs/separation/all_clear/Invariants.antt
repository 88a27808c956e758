use Rattle.std.proofs.Common.{take}
use Rattle.tables.specs.Views.{table_view}
use Rattle.weighbridge.specs.Crossings.{uses_of}
use Rattle.weighbridge_laws.specs.Weighbridges.{Vouches}
use Rattle.weighbridge.proofs.separation.all_clear.Given as goal

abbrev pub invariant-loop-i : goal.invariant-loop-i
invariant-loop-i l = Vouches (uses_of (take l.i l.uses)) (table_view l.table)
