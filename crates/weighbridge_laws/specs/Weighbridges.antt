-- A weighbridge over the crossings that stand in it, no two of which overlap: the plans that it allows, and what it tells of a table.
use Rattle.std.specs.Prelude.{◌≡◌, ℕ, ◌≤◌, ◌⊎◌, List, [], ◌∷◌, ℤ, pos, ◌≤ℤ◌, ◌<ℤ◌, None}
use Rattle.model.specs.Meanings.{Meaning}
use Rattle.model.specs.Plans.{Plan, View}
use Rattle.model.specs.Uses.{Uses, In, standing}
use Rattle.model.specs.declared.slips.Use.{Use}

-- a stands before b in the list
abbrev pub Before : Use → Use → List Use → Type 0
Before a b [] = ⊥
Before a b (u ∷ us) = ((u ≡ a) × In b us) ⊎ Before a b us

-- a and b are two of the uses, in either order; they may be alike, under two numbers
abbrev pub Two : Use → Use → List Use → Type 0
Two a b us = Before a b us ⊎ Before b a us

pub record Allows (us : List Use) (t : Plan) : Type 0 where
  pub order : (u : Use) → In u us → t u.first ≤ t u.last
  -- of any two, one ends no later than the other begins
  pub apart : (a b : Use) → Two a b us → (t a.last ≤ t b.first) ⊎ (t b.last ≤ t a.first)

pub data Gives (us : List Use) (m : View) (i j : ℕ) (c : ℤ) : Type 0 where
  -- a crossing ends no earlier than it begins
  order : (u : Use) → In u us → i ≡ u.last → j ≡ u.first → c ≡ pos 0 → Gives us m i j c
  -- b begins before a has ended, so b is over when a begins
  turn : (a b : Use) → Two a b us → m.at a.last b.first <ℤ pos 0 → i ≡ a.first → j ≡ b.last → c ≡ pos 0 → Gives us m i j c

pub data Refuses (us : List Use) (m : View) : Type 0 where
  reversed : (u : Use) → In u us → m.at u.first u.last <ℤ pos 0 → Refuses us m
  -- each begins before the other has ended
  overlap : (a b : Use) → Two a b us → m.at a.last b.first <ℤ pos 0 → m.at b.last a.first <ℤ pos 0 → Refuses us m

pub record Vouches (us : List Use) (m : View) : Type 0 where
  pub order : (u : Use) → In u us → m.at u.last u.first ≤ℤ pos 0
  pub apart : (a b : Use) → Two a b us → (m.at b.first a.last ≤ℤ pos 0) ⊎ (m.at a.first b.last ≤ℤ pos 0)

-- a weighbridge has one place, and no level
abbrev pub meaning : Uses → Meaning
meaning us = record {
  allows = Allows (standing (us 0));
  refuses = Refuses (standing (us 0));
  vouches = Vouches (standing (us 0));
  gives = Gives (standing (us 0));
  level = λ t place x. pos 0;
  levels = λ m place x. None;
}
