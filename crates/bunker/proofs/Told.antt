-- The levels that a bunker tells.
use Rattle.std.proofs.Common.{◌≡◌, ℕ, ◌≤◌, cond, eqb, List, ℤ, Some, None, Option, sym, ap, ◌∙◌, ap₂, arith}
use Rattle.bunker_laws.specs.Bunkers.{highest, lowest}
use Rattle.bunker_laws.specs.declared.settings.Settings.{Settings}
use Rattle.model.specs.Plans.{View}
use Rattle.model.specs.declared.moments.Moment.{Moment}
use Rattle.model.specs.declared.slips.Use.{Use}
use Rattle.std.proofs.lemmas.Bool.{cond-true, eq-eqb}

-- the levels of the one place, over the same uses under another name
pub levels_told_holds : (s : Settings) (us vs : List Use) (m : View) (x : Moment) (place : ℕ) (h l : ℤ) → place ≤ 0 → us ≡ vs → h ≡ highest s us m x → l ≡ lowest s us m x → ◌≡◌ {A = Option (ℤ × ℤ)} (Some (h, l)) (cond (eqb place 0) (Some (highest s vs m x, lowest s vs m x)) None)
levels_told_holds s us vs m x place h l here same up down =
    ap₂ {C = Option (ℤ × ℤ)} (λ a b. Some (a, b)) (up ∙ ap (λ ws. highest s ws m x) same) (down ∙ ap (λ ws. lowest s ws m x) same)
    ∙ sym (cond-true (eqb place 0) (Some (highest s vs m x, lowest s vs m x)) None (eq-eqb place 0 (omega arith)))
