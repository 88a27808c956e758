use Rattle.std.proofs.Common.{◌≡◌, ◌-◌, sym, List, ℕ, [], Some, None, Option, unwrap_or, refl, ◌∙◌, ap, Bor}
use Rattle.std.proofs.lemmas.Bool.{cond-false, ne_eqb}
use Rattle.std.specs.Option.{option_map}
use Rattle.std.proofs.lemmas.Option.{unwrap_or-slice_get}
use Rattle.dayline.specs.Parts.{lines_of}
use Rattle.dayline.proofs.parts.line_of.Goals as goal

now_of : (o : Option (Bor (List ℕ))) (d : Bor (List ℕ)) → (unwrap_or o d).now ≡ unwrap_or (option_map (λ x. x.now) o) d.now
now_of None d = refl
now_of (Some x) d = refl

pub returns : goal.returns
returns c =
    let lines = lines_of c.args.text.now in
    let number = c.args.number in
    ap (λ x. x.now) c.unwrap_or.ensures
    ∙ (now_of c.line_at.result _ ∙ (ap (λ o. unwrap_or o []) c.line_at.ensures ∙ (unwrap_or-slice_get lines (number - 1) [] ∙ sym (cond-false _ _ _ (ne_eqb number 0 c.if-number-eq0.false)))))
