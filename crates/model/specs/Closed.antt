-- Closed tables, the plans that obey, and the verdict.
use Rattle.std.specs.Prelude.{◌≡◌, ℕ, ◌<◌, ℤ, pos, ◌+ℤ◌, ◌≤ℤ◌, ◌<ℤ◌, Some, Option}
use Rattle.model.specs.Meanings.{Meaning}
use Rattle.model.specs.Plans.{Plan, PlanOf, View, Within, Sound, Tighter}
use Rattle.model.specs.declared.slips.Distance.{Distance}

-- the distance slips that stand, by number
abbrev pub Slips : Type 0
Slips = ℕ → Option Distance

-- each standing slip names points below n
abbrev pub SlipsHeld : ℕ → Slips → Type 0
SlipsHeld n slips = (k : ℕ) (s : Distance) → slips k ≡ Some s → (s.from < n) × (s.to < n)

-- a day of h minutes and n points, with its standing distance slips and what its limits mean
module _ (h n : ℕ) (slips : Slips) (r : Meaning) where
  pub record Closed (m : View) : Type 0 where
    pub points : m.points ≡ n
    pub sound : Sound m
    pub short : (i j : ℕ) → i < n → j < n → m.at i j ≤ℤ pos h
    pub opening : (i : ℕ) → i < n → m.at i 0 ≤ℤ pos 0
    pub posted : (k : ℕ) (s : Distance) → slips k ≡ Some s → m.at s.from s.to ≤ℤ s.minutes
    pub not_refused : r.refuses m → ⊥
    pub bounded : (i j : ℕ) (b : ℤ) → i < n → j < n → r.gives m i j b → m.at i j ≤ℤ b

  -- no table is closed
  abbrev pub NoneClosed : Type 0
  NoneClosed = (m : View) → Closed m → ⊥

  -- the closed table that no other closed one exceeds anywhere
  pub record Tightened (m : View) : Type 0 where
    pub closed : Closed m
    pub greatest : (k : View) → Closed k → Tighter k m

  -- the plan meets every standing distance slip, and the limits allow it
  pub record Obeys (t : Plan) : Type 0 where
    pub plan : PlanOf n h t
    pub posted : (k : ℕ) (s : Distance) → slips k ≡ Some s → Within t s.from s.to s.minutes
    pub allowed : r.allows t

-- a point has more than one minute left
abbrev pub Loose : View → ℕ → Type 0
Loose m p = pos 0 <ℤ (m.at 0 p +ℤ m.at p 0)
