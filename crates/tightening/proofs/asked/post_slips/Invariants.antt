use Rattle.std.proofs.Common.{take}
use Rattle.model.specs.Narrowings.{Narrowed}
use Rattle.tables.specs.Views.{table_view}
use Rattle.tightening.specs.Asked.{distances, Posts}
use Rattle.tightening.proofs.asked.post_slips.Given as goal

abbrev pub invariant-loop-slip : goal.invariant-loop-slip
invariant-loop-slip l = Narrowed (Posts (distances (take l.slip-index l.slips))) (table_view l.initial.table) (table_view l.table)
