use Rattle.std.proofs.Common.{◌≡◌, ◌+◌, drop}
use Rattle.dayfile.specs.Reading.{go_on}
use Rattle.dayfile.specs.Views.{read_of}
use Rattle.dayfile.proofs.LineSteps.{read_rest}
use Rattle.dayfile.proofs.reading.Reading.read_lines.Given as goal

abbrev pub invariant-loop-i : goal.invariant-loop-i
invariant-loop-i l = read_rest l.file l.due (l.first + l.i) (drop l.i l.lines) (read_of l.self) ≡ go_on (read_of l.initial.self) (read_rest l.file l.initial.due l.first l.lines)
