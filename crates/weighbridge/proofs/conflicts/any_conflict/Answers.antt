use native.Mathlib.Nat.{sub-zero}
use Rattle.std.proofs.lemmas.Bool.Decides.{not_from_Decides}
use Rattle.tables.specs.Views.{table_view}
use Rattle.weighbridge.proofs.Searches.{blank}
use Rattle.weighbridge.proofs.Prefixes.{all_passed, found, not_found, decides_true, decides_false}
use Rattle.weighbridge.proofs.Pushes.{refuses_grows}
use Rattle.weighbridge.proofs.conflicts.any_conflict.Goals as goal
use Rattle.weighbridge_laws.specs.Weighbridges.{Refuses}

pub returns-then-conflicts : goal.returns-then-conflicts
returns-then-conflicts c =
    let m = table_view c.args.table.now in
    decides_true (found c.args.uses.now c.loop-i.i blank c.loop-i-test.true _ _ (refuses_grows m) (simp sub-zero at (c.conflicts.ensures.0 c.if-conflicts.true)))

pub loop-i-preserved : goal.loop-i-preserved
loop-i-preserved c =
    let m = table_view c.args.table.now in
    not_found c.args.uses.now c.loop-i.i blank c.loop-i-test.true _ _ (refuses_grows m) c.loop-i.invariant (simp sub-zero at (not_from_Decides c.conflicts.result c.conflicts.ensures c.if-conflicts.false))

pub returns : goal.returns
returns c =
    let m = table_view c.args.table.now in
    decides_false (all_passed c.args.uses.now (λ us. Refuses us m → ⊥) c.loop-i.i c.loop-i-test.false c.loop-i.invariant)
