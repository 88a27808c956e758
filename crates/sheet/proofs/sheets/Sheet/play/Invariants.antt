use Rattle.std.proofs.Common.{◌≡◌, take}
use Rattle.runs.specs.Days.{points, after}
use Rattle.runs.specs.Held.{Held}
use Rattle.runs.specs.Runs.{Settled}
use Rattle.runs.specs.Shown.{Shows}
use Rattle.sheet.specs.Replies.{FirstBefore, AnsweredFor}
use Rattle.sheet.specs.Sheets.{day_of, shown_of}
use Rattle.sheet.proofs.CallEnds.{takes_by}
use Rattle.sheet.proofs.sheets.Sheet.play.Given as goal

abbrev pub invariant-loop-i : goal.invariant-loop-i
invariant-loop-i g l =
    let takes = takes_by g.L.Rule g.L.Limit in
    let start = day_of g.L.Rule.settings g.L.Rule.uses l.initial.self in
    let now-day = day_of g.L.Rule.settings g.L.Rule.uses l.self in
    (now-day ≡ after takes start (take l.i-counter l.calls))
    × FirstBefore takes start l.calls l.i-counter l.refused
    × (Held start → Settled takes start (take l.i-counter l.calls) → Shows g.L.Rule.meaning now-day (shown_of l.self))
    × (Settled takes start (take l.i-counter l.calls) → AnsweredFor (points now-day) (shown_of l.self) l.answer)
