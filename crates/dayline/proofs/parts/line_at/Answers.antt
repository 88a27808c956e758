use Rattle.dayline.proofs.Pieces.{line_here, line_unended}
use Rattle.dayline.proofs.parts.line_at.Goals as goal

pub returns-in_err-line : goal.returns-in_err-line
returns-in_err-line c = rw c.from_residual-in_err-line.ensures (line_unended c.args.text.now c.args.index c.in_ok-rest.rest.now c.in_ok-rest.ensures.0 c.in_err-line.ensures)

pub returns : goal.returns
returns c = line_here c.args.text.now c.args.index c.in_ok-rest.rest.now c.in_ok-line.line.now c.in_ok-line.field-0-1.now c.in_ok-rest.ensures.0 c.in_ok-line.ensures.0
