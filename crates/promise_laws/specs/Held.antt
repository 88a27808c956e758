-- Which uses a day of n points can have.
use Rattle.std.specs.Prelude.{◌≡◌, ℕ, ◌<◌, Some}
use Rattle.model.specs.Uses.{Uses}
use Rattle.model.specs.declared.slips.Use.{Use}

-- each standing use names points below n
abbrev pub UsesHeld : ℕ → Uses → Type 0
UsesHeld n us = (place number : ℕ) (u : Use) → us place number ≡ Some u → (u.first < n) × (u.last < n)
