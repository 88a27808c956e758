-- Stretches of minutes at which a table is sure of the same of all points that the uses name.
use Rattle.std.specs.Prelude.{◌≡◌, ℕ, ◌+◌, ◌≤◌, ◌⊎◌, List}
use Rattle.bunker_laws.specs.Bunkers.{sure_by, sure_after}
use Rattle.model.specs.Plans.{View}
use Rattle.model.specs.Uses.{In}
use Rattle.model.specs.declared.moments.Moment.{Moment}
use Rattle.model.specs.declared.moments.Moment.TheVariants.{Minute}
use Rattle.model.specs.declared.slips.Use.{Use}

-- of the minutes from first to last, P holds up to the minute end, and no further
pub record RunEnds (P : ℕ → Type 0) (first last end : ℕ) : Type 0 where
  pub order : first ≤ end
  pub inside : end ≤ last
  pub throughout : (k : ℕ) → first ≤ k → k ≤ end → P k
  pub longest : (end ≡ last) ⊎ (P (end + 1) → ⊥)

-- at both moments the table is sure of the same of the point p
abbrev pub SameAt : View → ℕ → Moment → Moment → Type 0
SameAt m p x y = (sure_by m p x ≡ sure_by m p y) × (sure_after m p x ≡ sure_after m p y)

-- of both points of the use
abbrev pub SameFor : View → Use → Moment → Moment → Type 0
SameFor m u x y = SameAt m u.first x y × SameAt m u.last x y

-- of the points of each of these uses
abbrev pub Alike : View → List Use → Moment → Moment → Type 0
Alike m us x y = (u : Use) → In u us → SameFor m u x y

-- the longest stretch of minutes of the day from `first` on that are alike
abbrev pub LongestFrom : View → List Use → (first last : ℕ) → Type 0
LongestFrom m us first last = RunEnds (λ k. Alike m us (Minute first) (Minute k)) first 10080 last
