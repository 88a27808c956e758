-- Plans, tables of bounds between points, and which plans meet a table.
use Rattle.std.specs.Prelude.{◌≡◌, ℕ, ◌<◌, ◌≤◌, cond, ◌&&◌, ◌⊎◌, ℤ, pos, ◌+ℤ◌, ◌-ℤ◌, ◌≤ℤ◌, nat_lt}

-- the minute of each point
abbrev pub Plan : Type 0
Plan = ℕ → ℕ

-- a plan of n points within a horizon of h minutes: opening, which is point 0, at minute 0, and no point after the horizon
pub record PlanOf (n h : ℕ) (t : Plan) : Type 0 where
  pub opening : t 0 ≡ 0
  pub within : (p : ℕ) → p < n → t p ≤ h

-- what a table of so many points holds: `at i j` is the most minutes that j may come after i
pub record View : Type 0 where
  pub points : ℕ
  pub at : ℕ → ℕ → ℤ

-- j comes at most b minutes after i
abbrev pub Within : Plan → ℕ → ℕ → ℤ → Type 0
Within t i j b = pos (t j) ≤ℤ (pos (t i) +ℤ b)

abbrev pub Meets : Plan → View → Type 0
Meets t m = (i j : ℕ) → i < m.points → j < m.points → Within t i j (m.at i j)

-- a table whose bounds agree with each other
pub record Sound (m : View) : Type 0 where
  pub some : 0 < m.points
  -- no entry is above 10,080, which is what an entry that the table lacks counts as
  pub within : (i j : ℕ) → m.at i j ≤ℤ pos 10080
  pub outside : (i j : ℕ) → (m.points ≤ i) ⊎ (m.points ≤ j) → m.at i j ≡ pos 10080
  pub zero : (i : ℕ) → i < m.points → m.at i i ≡ pos 0
  pub triangle : (i j k : ℕ) → i < m.points → j < m.points → k < m.points → m.at i k ≤ℤ (m.at i j +ℤ m.at j k)

-- no entry of m is larger than n's
pub record Tighter (m n : View) : Type 0 where
  pub same : m.points ≡ n.points
  pub below : (i j : ℕ) → i < m.points → j < m.points → m.at i j ≤ℤ n.at i j

-- the table that the plan t alone meets
abbrev pub table_of : ℕ → Plan → View
table_of n t = record { points = n; at = λ i j. cond (nat_lt i n && nat_lt j n) (pos (t j) -ℤ pos (t i)) (pos 10080) }
