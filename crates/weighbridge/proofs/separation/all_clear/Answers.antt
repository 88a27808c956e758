use native.Mathlib.Nat.{sub-zero}
use Rattle.std.proofs.lemmas.Bool.Decides.{not_from_Decides}
use Rattle.tables.specs.Views.{table_view}
use Rattle.weighbridge.proofs.Searches.{blank}
use Rattle.weighbridge.proofs.Prefixes.{all_passed, kept, broken, decides_true, decides_false}
use Rattle.weighbridge.proofs.Pushes.{vouches_shrinks}
use Rattle.weighbridge.proofs.separation.all_clear.Goals as goal
use Rattle.weighbridge_laws.specs.Weighbridges.{Vouches}

pub returns-then-not-clear : goal.returns-then-not-clear
returns-then-not-clear c =
    let m = table_view c.args.table.now in
    decides_false (broken c.args.uses.now c.loop-i.i blank c.loop-i-test.true _ _ (vouches_shrinks m) (simp sub-zero at (not_from_Decides c.clear.result c.clear.ensures c.if-not-clear.true)))

pub loop-i-preserved : goal.loop-i-preserved
loop-i-preserved c =
    let m = table_view c.args.table.now in
    kept c.args.uses.now c.loop-i.i blank c.loop-i-test.true _ _ (vouches_shrinks m) c.loop-i.invariant (simp sub-zero at (c.clear.ensures.0 c.if-not-clear.false))

pub returns : goal.returns
returns c =
    let m = table_view c.args.table.now in
    decides_true (all_passed c.args.uses.now (λ us. Vouches us m) c.loop-i.i c.loop-i-test.false c.loop-i.invariant)
