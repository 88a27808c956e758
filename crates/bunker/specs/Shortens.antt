-- A stretch of minutes cut short.
use Rattle.std.specs.Prelude.{◌≡◌, ℕ}
use Rattle.bunker.specs.Stretches.{RunEnds}
use Rattle.bunker.specs.declared.stretches.Stretch.{Stretch}

-- of the stretch s, r is the part from its first minute up to which P holds
pub record Shortens (P : ℕ → Type 0) (s r : Stretch) : Type 0 where
  pub first : r.first ≡ s.first
  pub last : RunEnds P s.first s.last r.last
