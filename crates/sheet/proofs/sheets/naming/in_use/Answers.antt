use Rattle.std.proofs.Common.{◌∙◌, rules, tests}
use Rattle.std.proofs.lemmas.Iterator.{YieldsList-from_slice}
use Rattle.std.proofs.lemmas.Iterator.Search.{any_from_yields_List}
use Rattle.std.specs.Str.{bytes_eq}
use Rattle.model.specs.Labels.{text_of}
use Rattle.sheet.proofs.LabelLists.{in_use-map}
use Rattle.sheet.proofs.sheets.naming.in_use.Goals as goal

pub returns : goal.returns
returns c =
    any_from_yields_List (λ l. bytes_eq (text_of l) c.args.text.now) _ _ _ c.any.ensures.ran (YieldsList-from_slice c.args.labels.now cc) (λ x b q k. search (rules, tests))
    ∙ in_use-map c.args.text.now c.args.labels.now
