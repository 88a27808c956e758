use Rattle.std.proofs.Common.{rules, ◌≡◌, ap, ◌∙◌}
use Rattle.std.proofs.lemmas.List.{get_or_default}
use Rattle.std.specs.Option.{option_map, option_or}
use Rattle.runs.specs.declared.calls.Call.TheVariants.{Tighten}
use Rattle.sheet.proofs.Plays.{day_more, first_more, shows_more, answer_more}
use Rattle.sheet.proofs.sheets.Sheet.play.Goals as goal

pub loop-i-preserved : goal.loop-i-preserved
loop-i-preserved g c =
    let i = c.loop-i.i-counter in
    let mapped : c.map.result ≡ option_map (λ why. (i, why)) c.refusal.result = search rules in
    let told = c.or-refused.ensures ∙ ap (option_or c.loop-i.refused) (mapped ∙ ap (option_map (λ why. (i, why))) c.refusal.ensures) in
    let answered = c.or-answer.ensures ∙ ap (λ o. option_or o c.loop-i.answer) c.answer.ensures in
    let is = get_or_default c.args.calls.now i _ Tighten c.loop-i-test.true in
    let so_far = c.loop-i.invariant in
    let applied = c.apply-reply.ensures in (
      day_more _ _ _ _ _ c.loop-i-test.true _ is _ _ so_far.0 _ _ _ applied,
      rw told (first_more _ _ _ _ _ c.loop-i-test.true _ is _ _ so_far.0 _ _ _ applied c.loop-i.refused so_far.1),
      λ held. shows_more _ _ _ _ _ c.loop-i-test.true _ is _ _ so_far.0 _ _ _ applied held (so_far.2 held),
      λ settled. rw answered (answer_more _ _ _ _ _ c.loop-i-test.true _ is _ _ so_far.0 _ _ _ applied c.loop-i.answer so_far.3 settled),
    )
