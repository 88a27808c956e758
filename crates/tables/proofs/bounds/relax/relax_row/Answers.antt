use Rattle.std.proofs.Common.{get_or, pos, arith, rules, w16, SFits}
use Rattle.std.proofs.lemmas.Int.{ints, clamps}
use Rattle.tables.proofs.Rows.{relaxes_more}
use Rattle.tables.proofs.bounds.relax.relax_row.Goals as goal

pub loop-j-preserved : goal.loop-j-preserved
loop-j-preserved c =
    let j = c.loop-j.j in
    let held : SFits w16 (get_or c.loop-j.row j (pos 0)) = search rules in
    let low = c.requires.low j (omega arith) in
    let within = c.requires.over j in
    relaxes_more _ c.args.over.now j c.args.row.now c.loop-j.row _ (omega (arith, c.loop-j.invariant.same)) c.loop-j.invariant (omega (arith, ints, clamps))
