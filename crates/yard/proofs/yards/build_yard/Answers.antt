use Rattle.std.proofs.Common.{◌≡◌, true, false, cond, ltb, refl, ap, ◌∙◌}
use mathlib.Core.Path.{fun_ext}
use Rattle.bunker_laws.specs.declared.settings.Settings.{Settings}
use Rattle.model.specs.Uses.{Uses, none, joined}
use Rattle.yard.specs.Yards.{Alike}
use Rattle.yard.proofs.yards.build_yard.Goals as goal

-- no use stands in either of two limits
none_joined : (a b : Uses) → a ≡ none → b ≡ none → joined 1 a b ≡ none
none_joined a b p q =
    ap (λ x. joined 1 x b) p ∙ (ap (joined 1 none) q ∙ fun_ext (λ at. elim (ltb at 1) as (λ t. cond t (none at) (none at) ≡ none at) [ true ↦ refl | false ↦ refl ]))

-- bunkers of the same settings are alike
alike : {s z : Settings} → z ≡ s → Alike s z
alike same = record { floor = ap (λ x. x.floor) same; roof = ap (λ x. x.roof) same; start = ap (λ x. x.start) same }

pub returns : goal.returns
returns c =
    let left = c.in_ok-left.ensures in
    let middle = c.in_ok-middle.ensures in
    record {
      left = alike left.0;
      right = alike middle.0;
      uses = none_joined _ _ left.1 (none_joined _ _ middle.1 c.in_ok-bridge.ensures);
    }
