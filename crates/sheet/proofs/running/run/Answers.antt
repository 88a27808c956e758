use Rattle.std.proofs.Common.{◌≡◌, ℕ, Some, None, Option, refl, ap, ◌∙◌, subst}
use Rattle.model.specs.Uses.{Uses}
use Rattle.model.specs.declared.slips.Use.{Use}
use Rattle.rules.specs.Calls.{AnyUse}
use Rattle.runs.proofs.Afters.{held_ruled}
use Rattle.runs.proofs.Promised.{promise}
use Rattle.runs.specs.Days.{points, ruled, after}
use Rattle.runs.specs.Held.{Held}
use Rattle.runs.specs.Runs.{Settled}
use Rattle.runs.specs.Shown.{Shows}
use Rattle.sheet.specs.Replies.{FirstRefused, AnsweredFor}
use Rattle.sheet.specs.Sheets.{day_of, shown_of}
use Rattle.sheet.proofs.CallEnds.{takes_by}
use Rattle.sheet.proofs.running.run.Goals as goal

no_use : (us : Uses) → (AnyUse us → ⊥) → (place k : ℕ) → us place k ≡ None
no_use us none place k = by (us place k) refl
  where
    by : (o : Option Use) → us place k ≡ o → us place k ≡ None
    by None e = e
    by (Some u) e = absurd (none (place, k, rw e refl))

pub returns : goal.returns
returns g c =
    let takes = takes_by g.L.Rule g.L.Limit in
    let means = g.L.Rule.meaning in
    let s = g.L.Rule.settings c.args.limits in
    let us = g.L.Rule.uses c.args.limits in
    let h = c.args.horizon in
    let calls = c.args.calls.now in
    let w = c.in_ok-sheet.ensures in
    let first : day_of g.L.Rule.settings g.L.Rule.uses c.in_ok-sheet.sheet ≡ ruled h s us = w.2 in
    let none = no_use us w.1 in
    let end = day_of g.L.Rule.settings g.L.Rule.uses c.play-told.new.self in
    let shown = shown_of c.play-told.new.self in
    let day : end ≡ after takes (ruled h s us) calls = c.play-told.ensures.day ∙ ap (λ d. after takes d calls) first in
    let shows : Settled takes (ruled h s us) calls → Shows means (after takes (ruled h s us) calls) shown =
    λ settled. subst (λ e. Shows means e shown) day
    (subst (λ d. Held d → Settled takes d calls → Shows means end shown) first c.play-told.ensures.shows (held_ruled h s us none) settled)
    in
    record {
      promise = promise takes means h s us calls shown (λ t vs. g.met.L.Rule.lawful t vs) w.0.1 none shows;
      day = day;
      answer = λ settled. subst (λ d. Settled takes d calls → AnsweredFor (points end) shown c.play-told.result.answer) first c.play-told.ensures.answer settled;
      refused = subst (λ d. FirstRefused takes d calls c.play-told.result.refused) first c.play-told.ensures.refused;
    }
