use Rattle.std.proofs.Common.{get_or, ◌∙◌, subst}
use Rattle.bunker.proofs.Runs.{run_use}
use Rattle.bunker.proofs.Turns.{blank, turn}
use Rattle.bunker.proofs.bunkers.Bunker.stretch_from.Goals as goal
use Rattle.bunker.specs.Records.{uses_of}
use Rattle.bunker.specs.Stretches.{RunEnds, SameFor}
use Rattle.model.specs.declared.moments.Moment.TheVariants.{Minute}
use Rattle.tables.specs.Views.{table_view}

pub loop-x-preserved : goal.loop-x-preserved
loop-x-preserved c =
    let b = c.args.self.now in
    let m = table_view c.args.table.now in
    let xs = c.as_slice-x-items.result.now in
    let i = c.loop-x.x-index in
    let u = (get_or xs i blank).what in
    let t = turn b xs i c.as_slice-x-items.ensures.items c.loop-x-test.true in
    let cut = c.before_use-stretch.ensures in
    let here = subst (λ n. RunEnds (λ k. SameFor m u (Minute n) (Minute k)) n c.loop-x.stretch.1.0 c.before_use-stretch.result.last) c.loop-x.invariant.0 cut.last in
    (cut.first ∙ c.loop-x.invariant.0, run_use m (uses_of b) i u c.args.first c.loop-x.stretch.1.0 c.before_use-stretch.result.last t c.loop-x.invariant.1 here)
