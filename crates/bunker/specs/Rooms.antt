-- Levels beside the floor and the roof, and loans in their order.
use Rattle.std.specs.Prelude.{◌≡◌, ℕ, ◌<◌, Bool, false, ◌&&◌, ◌||◌, ◌⊎◌, List, ℤ, pos, ◌≤ℤ◌, ◌<ℤ◌, int_le, int_lt}
use Rattle.bunker_laws.specs.Bunkers.{delivery, highest, lowest}
use Rattle.bunker_laws.specs.declared.settings.Settings.{Settings}
use Rattle.model.specs.Plans.{View}
use Rattle.model.specs.Uses.{In}
use Rattle.model.specs.declared.moments.Moment.{Moment}
use Rattle.model.specs.declared.moments.Moment.TheVariants.{Point, Minute}
use Rattle.model.specs.declared.slips.Use.{Use}

-- ---- levels from the lowest to the highest

-- none of them lies between floor and roof
abbrev pub missed : Settings → (highest lowest : ℤ) → Bool
missed s highest lowest = int_lt highest s.floor || int_lt s.roof lowest

-- all of them do
abbrev pub within : Settings → (highest lowest : ℤ) → Bool
within s highest lowest = int_le s.floor lowest && int_le highest s.roof

-- ---- levels at a moment

module _ (s : Settings) (us : List Use) (m : View) where
  -- these are the highest and the lowest
  pub record AreLevels (x : Moment) (high low : ℤ) : Type 0 where
    pub highest : high ≡ highest s us m x
    pub lowest : low ≡ lowest s us m x

  -- none lies between floor and roof
  abbrev pub NoRoom : Moment → Type 0
  NoRoom x = (highest s us m x <ℤ s.floor) ⊎ (s.roof <ℤ lowest s us m x)

  -- at some minute before n
  abbrev pub NoRoomBefore : ℕ → Type 0
  NoRoomBefore n = (k : ℕ) × (k < n) × NoRoom (Minute k)

  -- at a point of the use
  abbrev pub NoRoomAround : Use → Type 0
  NoRoomAround u = NoRoom (Point u.first) ⊎ NoRoom (Point u.last)

  -- at a point of one of these uses
  abbrev pub NoRoomPoints : List Use → Type 0
  NoRoomPoints vs = (u : Use) × In u vs × NoRoomAround u

  -- all lie between floor and roof
  abbrev pub Room : Moment → Type 0
  Room x = (s.floor ≤ℤ lowest s us m x) × (highest s us m x ≤ℤ s.roof)

  -- at both points of the use
  abbrev pub RoomAround : Use → Type 0
  RoomAround u = Room (Point u.first) × Room (Point u.last)

  -- at the points of each of these uses
  abbrev pub RoomPoints : List Use → Type 0
  RoomPoints vs = (u : Use) → In u vs → RoomAround u

-- ---- loans

-- a loan that ends before it begins
abbrev pub Reversed : View → Use → Type 0
Reversed m u = (delivery u ≡ false) × (m.at u.first u.last <ℤ pos 0)

abbrev pub SomeReversed : View → List Use → Type 0
SomeReversed m us = (u : Use) × In u us × Reversed m u

-- a loan is sure to end no earlier than it begins
abbrev pub Ordered : View → Use → Type 0
Ordered m u = delivery u ≡ false → m.at u.last u.first ≤ℤ pos 0

abbrev pub AllOrdered : View → List Use → Type 0
AllOrdered m us = (u : Use) → In u us → Ordered m u
