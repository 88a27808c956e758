use Rattle.std.proofs.Common.{vec_items}
use Rattle.dayline.proofs.Pieces.{line_split}
use Rattle.dayline.proofs.parts.split_lines.Goals as goal

pub loop-line-preserved : goal.loop-line-preserved
loop-line-preserved c =
    line_split (vec_items c.loop-line.lines) (vec_items c.push.new.self) c.in-Some.line c.args.text.now c.loop-line.left.now c.in-Some.after.now
    c.in-Some.ensures.0 c.in_ok-push.ensures.items c.loop-line.invariant
