use Rattle.std.proofs.Common.{◌≡◌, Bool, ◌++◌, map, take}
use Rattle.model.specs.Labels.{text_of}
use Rattle.model.specs.Plans.{View}
use Rattle.output.specs.Output.{point_table}
use Rattle.runs.specs.Shown.{Shown}
use Rattle.sheet.specs.Sheets.{shown_of}
use Rattle.texts.specs.Texts.{cut}
use Rattle.output.proofs.writing.push_table.Given as goal

abbrev pub invariant-loop-point : goal.invariant-loop-point
invariant-loop-point g l = (m : View) (any : Bool) → shown_of l.sheet ≡ Shown.bounds m any → l.text ≡ cut (l.fn.text ++ point_table m (map text_of (take l.point l.labels)))
