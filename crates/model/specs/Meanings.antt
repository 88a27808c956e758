-- What a rule means, and the laws that tie what it tells of a table to the plans that it allows.
use Rattle.std.specs.Prelude.{ℕ, ◌-◌, ◌<◌, cond, ◌⊎◌, ℤ, negsuc, ◌≤ℤ◌, IfSome, None, Option, nat_lt}
use Rattle.model.specs.Plans.{Plan, PlanOf, View, Within, Meets, Sound, Tighter, table_of}
use Rattle.model.specs.Uses.{Uses, Holds}
use Rattle.model.specs.declared.moments.Moment.{Moment}

pub record Meaning : Type 1 where
  -- the plans that it allows
  pub allows : Plan → Type 0
  -- the tables that it turns away, since no plan that meets them is allowed
  pub refuses : View → Type 0
  -- the tables that it answers for: each plan that meets them is allowed
  pub vouches : View → Type 0
  -- `gives m i j b`: under the table m, j has to come at most b minutes after i
  pub gives : View → ℕ → ℕ → ℤ → Type 0
  -- the level under a plan, by place and moment
  pub level : Plan → ℕ → Moment → ℤ
  -- the highest and the lowest level told of a table, by place and moment
  pub levels : View → ℕ → Moment → Option (ℤ × ℤ)

-- the bound b is in the table, or the rule gives one as low
abbrev pub AsTight : Meaning → View → ℕ → ℕ → ℤ → Type 0
AsTight r m i j b = (m.at i j ≤ℤ b) ⊎ ((c : ℤ) × r.gives m i j c × (c ≤ℤ b))

-- The laws, over sound tables that hold every point that a standing use names, and plans for any horizon.
pub record Lawful (us : Uses) (r : Meaning) : Type 0 where
  -- an allowed plan that meets the table: the table is not refused, and the plan meets every bound given
  pub keeps : (m : View) (t : Plan) → Sound m → Holds us m → PlanOf m.points 10080 t → Meets t m → r.allows t → (r.refuses m → ⊥) × ((i j : ℕ) (b : ℤ) → r.gives m i j b → Within t i j b)
  -- a tighter table that is not refused: the looser one is not refused either, and is given no lower bound
  pub narrows : (m n : View) → Sound m → Sound n → Holds us m → Tighter m n → (r.refuses m → ⊥) → (r.refuses n → ⊥) × ((i j : ℕ) (b : ℤ) → r.gives n i j b → AsTight r m i j b)
  -- what it vouches for, it allows
  pub stands : (m : View) (t : Plan) → Sound m → Holds us m → PlanOf m.points 10080 t → Meets t m → r.vouches m → r.allows t
  -- the table of a plan is refused or vouched for
  pub decides : (n : ℕ) (t : Plan) → 0 < n → Holds us (table_of n t) → PlanOf n 10080 t → (r.refuses (table_of n t) → ⊥) → r.vouches (table_of n t)
  -- the level of every plan that meets the table lies between the two levels told
  pub spans : (m : View) (t : Plan) → Sound m → Holds us m → PlanOf m.points 10080 t → Meets t m → (place : ℕ) (x : Moment) → IfSome (r.levels m place x) (λ told. (told.1 ≤ℤ r.level t place x) × (r.level t place x ≤ℤ told.0))
  -- no bound is below -10,081
  pub depth : (m : View) (i j : ℕ) (b : ℤ) → r.gives m i j b → negsuc 10080 ≤ℤ b

-- both of two rules, where the first has n places; a place beyond the 64th cannot be reached
abbrev pub both : ℕ → Meaning → Meaning → Meaning
both n r s = record {
  allows = λ t. r.allows t × s.allows t;
  refuses = λ m. r.refuses m ⊎ s.refuses m;
  vouches = λ m. r.vouches m × s.vouches m;
  gives = λ m i j b. r.gives m i j b ⊎ s.gives m i j b;
  level = λ t place x. cond (nat_lt place n) (r.level t place x) (s.level t (place - n) x);
  levels = λ m place x. cond (nat_lt place 64) (cond (nat_lt place n) (r.levels m place x) (s.levels m (place - n) x)) None;
}
