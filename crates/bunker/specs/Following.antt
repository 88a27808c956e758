-- The bounds that the steps of a propagation give.
use Rattle.std.specs.Prelude.{◌≡◌, ℕ, ◌<◌, true, false, ◌||◌, ◌⊎◌, List, ℤ, pos}
use Rattle.bunker_laws.specs.Bunkers.{delivery, sure_by, sure_after, ByBound, AfterBound, Follows}
use Rattle.bunker_laws.specs.declared.settings.Settings.{Settings}
use Rattle.model.specs.Plans.{View}
use Rattle.model.specs.Uses.{In}
use Rattle.model.specs.declared.moments.Moment.{Moment}
use Rattle.model.specs.declared.moments.Moment.TheVariants.{Point, Minute}
use Rattle.model.specs.declared.slips.Use.{Use}

-- the minute that a moment names; a point names none, which counts as 0
abbrev pub minute_named : Moment → ℕ
minute_named (Point q) = 0
minute_named (Minute k) = k

-- the use is active at the moment
abbrev pub ActiveBounds : Moment → Use → ℕ → ℕ → ℤ → Type 0
ActiveBounds x u i j b = ByBound u.first x i j b ⊎ ((delivery u ≡ false) × AfterBound u.last x i j b)

-- the use is idle at the moment, as far as one bound can say so
abbrev pub IdleBounds : View → Moment → Use → ℕ → ℕ → ℤ → Type 0
IdleBounds m x u i j b =
    (((delivery u || sure_after m u.last x) ≡ true) × AfterBound u.first x i j b)
    ⊎ (((delivery u ≡ false) × (sure_by m u.first x ≡ true)) × ByBound u.last x i j b)

-- a loan ends no earlier than it begins
abbrev pub OrderBound : Use → ℕ → ℕ → ℤ → Type 0
OrderBound u i j b = (delivery u ≡ false) × ((i ≡ u.last) × (j ≡ u.first) × (b ≡ pos 0))

-- each of these loans
abbrev pub OrderBounds : List Use → ℕ → ℕ → ℤ → Type 0
OrderBounds us i j b = (u : Use) × In u us × OrderBound u i j b

module _ (s : Settings) (us : List Use) (m : View) where
  -- what follows at a moment for any of these uses
  abbrev pub FollowsFor : List Use → Moment → ℕ → ℕ → ℤ → Type 0
  FollowsFor vs x i j b = (u : Use) × In u vs × Follows s us m x u i j b

  -- at any minute before n
  abbrev pub FollowsBefore : ℕ → ℕ → ℕ → ℤ → Type 0
  FollowsBefore n i j b = (k : ℕ) × (k < n) × FollowsFor us (Minute k) i j b

  -- at either of two minutes
  abbrev pub FollowsEnds : (first last : ℕ) → ℕ → ℕ → ℤ → Type 0
  FollowsEnds first last i j b = FollowsFor us (Minute first) i j b ⊎ FollowsFor us (Minute last) i j b

  -- at the points of a use
  abbrev pub FollowsAround : Use → ℕ → ℕ → ℤ → Type 0
  FollowsAround u i j b = FollowsFor us (Point u.first) i j b ⊎ FollowsFor us (Point u.last) i j b

  -- at any point of any of these uses
  abbrev pub FollowsPoints : List Use → ℕ → ℕ → ℤ → Type 0
  FollowsPoints vs i j b = (u : Use) × In u vs × FollowsAround u i j b
