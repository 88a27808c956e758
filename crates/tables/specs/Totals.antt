-- How far the entries of a table stand above the lowest, all together.
use Rattle.std.specs.Prelude.{ℕ, zero, suc, ◌+◌, ◌-◌, ℤ, pos, negsuc}
use Rattle.model.specs.Plans.{View}

-- how far a bound stands above -10,081
abbrev pub height : ℤ → ℕ
height (pos n) = 10081 + n
height (negsuc n) = 10080 - n

-- f 0 + .. + f (n - 1)
unfoldable pub sum_to : (ℕ → ℕ) → ℕ → ℕ
sum_to f zero = 0
sum_to f (suc n) = f n + sum_to f n

-- the heights of all entries
unfoldable pub total : View → ℕ
total m = sum_to (λ i. sum_to (λ j. height (m.at i j)) m.points) m.points
