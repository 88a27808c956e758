-- What a round of tightening leaves. Each fact is of every day of the table's points whose closed tables are below the table.
use Rattle.std.specs.Prelude.{◌≡◌, ℕ, ◌<◌, ℤ, ◌≤ℤ◌}
use Rattle.model.specs.Closed.{Slips, NoneClosed}
use Rattle.model.specs.Meanings.{Meaning}
use Rattle.model.specs.Plans.{View, Sound, Tighter}
use Rattle.model.specs.Uses.{Uses}
use Rattle.promise_laws.specs.Held.{UsesHeld}
use Rattle.promise_laws.specs.Steps.{Over, Fits}
use Rattle.tables.specs.Totals.{total}
use Rattle.tables.specs.Views.{table_view}
use Rattle.tightening.specs.declared.rounds.Round.{Round}
use Rattle.tightening.specs.declared.rounds.Round.TheVariants.{Rest, Lower}

-- every closed table below m is below x
abbrev pub Keeps : Uses → Meaning → View → View → Type 0
Keeps us r m x = (h : ℕ) (slips : Slips) → UsesHeld m.points us → Over h m.points slips r m → Over h m.points slips r x

-- no closed table is below m
abbrev pub Ends : Uses → Meaning → View → Type 0
Ends us r m = (h : ℕ) (slips : Slips) → UsesHeld m.points us → Over h m.points slips r m → NoneClosed h m.points slips r

-- x is m closed, the limits do not refuse it, and give no bound below an entry
pub record Rests (us : Uses) (r : Meaning) (m x : View) : Type 0 where
  pub under : Tighter x m
  pub keeps : Keeps us r m x
  pub sound : Sound x
  pub not_refused : r.refuses x → ⊥
  pub bounded : (i j : ℕ) (b : ℤ) → i < m.points → j < m.points → r.gives x i j b → x.at i j ≤ℤ b

-- x is m with some entry lowered
pub record Falls (us : Uses) (r : Meaning) (m x : View) : Type 0 where
  pub under : Tighter x m
  pub keeps : Keeps us r m x
  pub falls : total x < total m

abbrev pub Rounded : Uses → Meaning → View → Round → Type 0
Rounded us r m (Rest t) = Rests us r m (table_view t)
Rounded us r m (Lower t) = Falls us r m (table_view t)

-- a table on the way to the greatest closed one: it keeps to the day's length and slips, and every closed table is below it
pub record Underway (h n : ℕ) (slips : Slips) (r : Meaning) (m : View) : Type 0 where
  pub points : m.points ≡ n
  pub fits : Fits h n slips m
  pub over : Over h n slips r m
