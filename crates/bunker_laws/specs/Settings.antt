-- Which settings a bunker can have.
use Rattle.std.specs.Prelude.{ℤ, pos, ◌≤ℤ◌}

abbrev pub Proper : (floor roof start : ℤ) → Type 0
Proper floor roof start = (pos 0 ≤ℤ floor) × (floor ≤ℤ start) × (start ≤ℤ roof) × (roof ≤ℤ pos 100000000)
