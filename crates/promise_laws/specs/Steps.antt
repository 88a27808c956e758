-- What holds of a table while it is tightened.
use Rattle.std.specs.Prelude.{◌≡◌, ℕ, ◌<◌, pos, ◌≤ℤ◌, Some}
use Rattle.model.specs.Closed.{Slips, Closed}
use Rattle.model.specs.Meanings.{Meaning}
use Rattle.model.specs.Plans.{View, Tighter}
use Rattle.model.specs.declared.slips.Distance.{Distance}

-- every closed table is below m
abbrev pub Over : (h n : ℕ) (slips : Slips) (r : Meaning) → View → Type 0
Over h n slips r m = (k : View) → Closed h n slips r k → Tighter k m

-- what a closed table keeps to without regard to the limits: the day's length, its opening and its standing distance slips
pub record Fits (h n : ℕ) (slips : Slips) (m : View) : Type 0 where
  pub short : (i j : ℕ) → i < n → j < n → m.at i j ≤ℤ pos h
  pub opening : (i : ℕ) → i < n → m.at i 0 ≤ℤ pos 0
  pub posted : (k : ℕ) (s : Distance) → slips k ≡ Some s → m.at s.from s.to ≤ℤ s.minutes
