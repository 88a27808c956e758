-- Which point has a label.
use Rattle.std.specs.Prelude.{ℕ, List, Option}
use Rattle.std.specs.List.{position}
use Rattle.std.specs.Str.{bytes_eq}

-- the number of the first point that has the word as its label
abbrev pub point_of : List (List ℕ) → List ℕ → Option ℕ
point_of labels word = position (λ l. bytes_eq l word) labels
