use Rattle.std.proofs.Common.{ℕ, ◌+◌, List, [], map, get_or, drop, sym, ap, ◌∙◌, Bor}
use Rattle.daytables.specs.Tables.{takes, said_of, came_of}
use Rattle.dayfile.specs.Files.{place_at}
use Rattle.dayfile.specs.Reading.{noted, refused}
use Rattle.dayfile.specs.Views.{read_of}
use Rattle.dayfile.proofs.LineSteps.{read_rest, line_more, line_refused}
use Rattle.dayfile.proofs.reading.Reading.read_lines.Goals as goal

-- what an empty place would read as
abbrev none : Bor (List ℕ)
none = record { ref_ptr = (0, 0); now = [] }

pub returns-in-Err : goal.returns-in-Err
returns-in-Err c =
    let lines = c.args.lines.now in
    let i = c.loop-i.i in
    let r = read_of c.loop-i.self in
    let labels = ap (λ ls. takes c.loop-i.due (map (λ x. x.now) ls) (get_or lines i none).now) c.as_slice.ensures.value in
    c.refuse.ensures
    ∙ (ap (λ at. refused at c.into.result r) c.line-at.ensures
    ∙ (ap (λ why. refused (place_at c.args.file (c.args.first + i)) why r) c.into.ensures
    ∙ (sym (line_refused c.args.file c.loop-i.due c.args.first lines i r none c.in-Err.why c.loop-i-test.true (c.in-Err.ensures ∙ labels))
    ∙ c.loop-i.invariant)))

pub loop-i-preserved : goal.loop-i-preserved
loop-i-preserved c =
    let lines = c.args.lines.now in
    let i = c.loop-i.i in
    let r = read_of c.loop-i.self in
    let labels = ap (λ ls. takes c.loop-i.due (map (λ x. x.now) ls) (get_or lines i none).now) c.as_slice.ensures.value in
    let noted-there = c.in_ok-note-in-Ok.ensures ∙ ap (λ at. noted at (said_of c.in-Ok.step.row) r) c.line-at.ensures in
    ap (λ r. read_rest c.args.file c.in-Ok.step.next (c.args.first + (i + 1)) (drop (i + 1) lines) r) noted-there
    ∙ (sym (line_more c.args.file c.loop-i.due c.args.first lines i r none (came_of c.in-Ok.step) c.loop-i-test.true (c.in-Ok.ensures ∙ labels))
    ∙ c.loop-i.invariant)
