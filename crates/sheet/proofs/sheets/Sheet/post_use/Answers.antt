use Rattle.std.proofs.Common.{◌≡◌, ◌∙◌, refl, None, true, ltb, subst, arith}
use Rattle.std.proofs.lemmas.Bool.{lt-ltb}
use Rattle.std.proofs.lemmas.Result.{err_from_is_err_and}
use Rattle.model.specs.Limits.{places_of}
use Rattle.sheet.specs.Sheets.{bad_ends, day_of}
use Rattle.sheet.proofs.CallEnds.{takes_by, refused_as, passed, stopped, vec_len-labels, same_day}
use Rattle.sheet.proofs.Postings.{used_by_limits}
use Rattle.sheet.proofs.sheets.Sheet.post_use.Goals as goal

pub returns-in_err-take : goal.returns-in_err-take
returns-in_err-take g c =
    let p = err_from_is_err_and c.from_residual-in_err-take.result c.from_residual-in_err-take.ensures.1 in
    let n = c.len.ensures ∙ vec_len-labels c.args.self.now.labels in
    let good = subst (λ m. bad_ends m c.args.number c.args.what.first c.args.what.last ≡ None) n (passed _ c.in_ok-check_ends.ensures) in
    let reached : ltb c.args.place (places_of (g.L.Rule.width (g.L.Rule.settings c.args.self.now.limits))) ≡ true = lt-ltb _ _ (omega (arith, c.places.ensures)) in
    let took = c.in_err-take.ensures in
    rw (p.1, p.2)
    (refused_as _ _ _ _ _ _ _ _ (used_by_limits (takes_by g.L.Rule g.L.Limit) (day_of g.L.Rule.settings g.L.Rule.uses c.args.self.now) c.args.place c.args.number c.args.what reached good ∙ stopped _ _ took.answer) refl (same_day _ _ _ _ _ _ _ took.settings took.uses))
