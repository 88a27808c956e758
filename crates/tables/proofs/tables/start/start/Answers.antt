use Rattle.std.proofs.Common.{pos, ap, ◌∙◌}
use Rattle.model.specs.Plans.{View}
use Rattle.tables.specs.Views.{lowered}
use Rattle.tables.proofs.Starts.{part_more}
use Rattle.tables.proofs.tables.start.start.Goals as goal

pub loop-p-preserved : goal.loop-p-preserved
loop-p-preserved c =
    let p = c.loop-p.p in
    c.lower-in-loop-p.ensures
    ∙ ap (λ (m : View). lowered m p 0 (pos 0)) (c.lower.ensures ∙ ap (λ (m : View). lowered m p p (pos 0)) c.loop-p.invariant)
    ∙ part_more c.args.points c.args.horizon p c.loop-p-test.true
