-- The tables that calls make and leave.
use Rattle.std.specs.Prelude.{ℕ, cond, ◌&&◌, ◌||◌, ℤ, pos, ◌==◌, nat_lt}
use Rattle.std.specs.Int.{int_min}
use Rattle.model.specs.Narrowings.{Narrowed}
use Rattle.model.specs.Plans.{View}
unfoldable pub use Rattle.tables.specs.Entries.{bounds_view}
use Rattle.tables.specs.declared.bounds.Bounds.{Bounds}
use Rattle.tables.specs.declared.tables.Table.{Table}

-- what a table holds
abbrev pub table_view : Table → View
table_view t = bounds_view t.bounds

-- the bounds that are given narrow these
abbrev pub Lowers : (ℕ → ℕ → ℤ → Type 0) → Bounds → Bounds → Type 0
Lowers given before after = Narrowed given (bounds_view before) (bounds_view after)

-- the entry at (i, j), where m has it, becomes the lesser of itself and v
abbrev pub lowered : View → ℕ → ℕ → ℤ → View
lowered m i j v =
    record {
      points = m.points;
      at = λ p q. cond ((p == i && q == j) && (nat_lt i m.points && nat_lt j m.points)) (int_min (m.at p q) v) (m.at p q);
    }

-- n points, and the bound v between any two
abbrev pub even_view : ℕ → ℤ → View
even_view n v = record { points = n; at = λ i j. cond (nat_lt i n && nat_lt j n) v (pos 10080) }

-- n points, and no bound
abbrev pub open_view : ℕ → View
open_view n = record { points = n; at = λ i j. pos 10080 }

-- n points in a day of h minutes: none before point 0, and none more than h after another
abbrev pub start_view : ℕ → ℕ → View
start_view n h = record { points = n; at = λ i j. cond (nat_lt i n && nat_lt j n) (cond (i == j || j == 0) (pos 0) (pos h)) (pos 10080) }
