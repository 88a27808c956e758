use Rattle.std.proofs.Common.{◌∙◌}
use Rattle.sheet.proofs.CallEnds.{vec_len-labels}
use Rattle.sheet.proofs.Tables.{answered}
use Rattle.sheet.proofs.sheets.Sheet.answer.Goals as goal

pub returns-in-Bounds : goal.returns-in-Bounds
returns-in-Bounds g c =
    let x = c.args.self.now in
    answered _ _ _ _ c.answer_for.result (x.whole c.in-Bounds.table c.in-Bounds.vouched c.in-Bounds.is ∙ vec_len-labels x.labels) c.in-Bounds.is c.answer_for.ensures
