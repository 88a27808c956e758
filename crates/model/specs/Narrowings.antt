-- How a rule lowers the bounds that are handed to it.
use Rattle.std.specs.Prelude.{◌≡◌, ℕ, ◌<◌, ◌⊎◌, ℤ, ◌≤ℤ◌}
use Rattle.model.specs.Plans.{View}

-- y is the least of x and the numbers that P holds of
pub record Least (P : ℤ → Type 0) (x y : ℤ) : Type 0 where
  pub below : y ≤ℤ x
  pub under : (b : ℤ) → P b → y ≤ℤ b
  pub reached : (y ≡ x) ⊎ P y

-- each entry becomes the least of itself and the bounds given for its pair
pub record Narrowed (given : ℕ → ℕ → ℤ → Type 0) (before after : View) : Type 0 where
  pub points : after.points ≡ before.points
  pub least : (i j : ℕ) → i < before.points → j < before.points → Least (given i j) (before.at i j) (after.at i j)
