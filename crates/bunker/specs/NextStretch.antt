-- The stretches that a bunker gives one after another.
use Rattle.std.specs.Prelude.{◌≡◌, ◌+◌, ◌<◌, MatchOption, Option}
use Rattle.bunker.specs.Records.{uses_of}
use Rattle.bunker.specs.Stretches.{LongestFrom}
use Rattle.bunker.specs.declared.stretches.Stretch.{Stretch}
use Rattle.bunker.specs.declared.stretches.Stretches.{Stretches}
use Rattle.tables.specs.Views.{table_view}

-- s gave the longest stretch from its minute on and left those behind it, or gave none past the day
pub record NextStretch (s : Stretches) (r : Option Stretch) (t : Stretches) : Type 0 where
  pub bunker : t.bunker.now ≡ s.bunker.now
  pub table : t.table.now ≡ s.table.now
  pub stretch : MatchOption r ((10080 < s.first) × (t.first ≡ s.first)) (λ x. (x.first ≡ s.first) × (t.first ≡ x.last + 1) × LongestFrom (table_view s.table.now) (uses_of s.bunker.now) s.first x.last)
