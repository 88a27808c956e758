use Rattle.runs.specs.Shown.{LooseWord}
use Rattle.tables.specs.Views.{table_view}
use Rattle.sheet.proofs.sheets.closing.loose_word.Given as goal

abbrev pub invariant-loop-p : goal.invariant-loop-p
invariant-loop-p l = LooseWord (table_view l.table) l.p l.word
