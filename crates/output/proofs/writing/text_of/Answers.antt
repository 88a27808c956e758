use Rattle.std.proofs.Common.{◌^◌, ◌<◌, ◌≤◌, [], ◌++◌, map, length, vec_items, ap, ◌∙◌, arith}
use Rattle.model.specs.Labels.{text_of}
use Rattle.output.proofs.Wholes.{open_or_any, short_output, long_output}
use Rattle.output.specs.Output.{line, point_table, verdict_table}
use Rattle.texts.specs.Texts.{cut}
use Rattle.output.proofs.writing.text_of.Goals as goal
use Rattle.output.proofs.writing.text_of.Goals.{in-NoPlan, in-Open+in_ok-push_table-in-Open}

pub returns : goal.returns
returns g c =
    let x = c.args.sheet.now in
    let a = c.in_ok-answer.answer in
    let labels = vec_items x.labels in
    let few : length labels ≤ 64 = omega (arith, x.few, x.labels.ok.0) in
    let small : a.count < 2 ^ 32 = omega arith in
    let none = c.new-text.ensures in
    elim c.match-answer.branch [
      | in-NoPlan w ↦
          short_output labels few a small x.shown (c.push_verdict.new.text) c.in_ok-answer.ensures w.in-NoPlan.is
          (c.push_verdict.ensures ∙ ap (λ s. cut (s ++ verdict_table a)) (w.text-is ∙ none))
      | in-Open+in_ok-push_table-in-Open w ↦
          long_output labels few a small x.shown (c.match-answer.text) (c.push_verdict.new.text) c.in_ok-answer.ensures
          (open_or_any a.verdict w.in-Open.is)
          (λ m any shown. w.text-is ∙ ((w.push_table.ensures m any shown).1 ∙ ap (λ s. cut (s ++ (point_table m (map text_of labels) ++ line []))) none))
          c.push_verdict.ensures
    ]
