-- Whether a text is among the labels, label by label.
use Rattle.std.proofs.Common.{◌≡◌, ℕ, ◌||◌, List, [], ◌∷◌, map, refl, ap}
use Rattle.std.specs.List.{list_any}
use Rattle.std.specs.Str.{bytes_eq}
use Rattle.model.specs.declared.labels.Label.{Label}
use Rattle.model.specs.Labels.{text_of}
use Rattle.runs.specs.Days.{in_use}

pub in_use-map : (text : List ℕ) (xs : List Label) → list_any (λ l. bytes_eq (text_of l) text) xs ≡ in_use text (map text_of xs)
in_use-map text [] = refl
in_use-map text (x ∷ xs) = ap (λ b. bytes_eq (text_of x) text || b) (in_use-map text xs)
