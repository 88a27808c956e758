use Rattle.std.proofs.lemmas.Result.{on_ok_weaker}
use Rattle.std.proofs.Common.{refl, arith}
use Rattle.std.proofs.lemmas.List.{set-get_or}
use Rattle.tables.proofs.Relaxed.{told_long, told_relaxed, row_kept}
use Rattle.tables.proofs.bounds.Bounds.relax_through.Goals as goal

pub returns-clause-test : goal.returns-clause-test
returns-clause-test c =
    let kept = row_kept c.args.self.now c.args.k c.requires in
    told_long c.args.self.now c.args.k c.requires c.relax_rows.ensures.test (grind (arith, set-get_or, kept))

pub returns-clause-after : goal.returns-clause-after
returns-clause-after c =
    let kept = row_kept c.args.self.now c.args.k c.requires in
    on_ok_weaker c.relax_rows.result (told_relaxed c.args.self.now c.args.k c.requires _ refl (grind (arith, set-get_or, kept))) c.relax_rows.ensures.after
