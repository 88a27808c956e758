-- How heavy a use may be.
use Rattle.std.specs.Prelude.{Bool, not, ◌&&◌, ℤ, pos, negsuc, ◌≤ℤ◌, int_le}
use Rattle.model.specs.Limits.{is_zero}
use Rattle.model.specs.declared.slips.Use.{Use}

-- at most a million, either way
abbrev pub Small : ℤ → Type 0
Small z = (negsuc 999999 ≤ℤ z) × (z ≤ℤ pos 1000000)

abbrev pub Light : Use → Type 0
Light u = Small u.kilos

-- the form of a bunker's use: some kilos, at most a million either way
abbrev pub moves_kilos : Use → Bool
moves_kilos u = not (is_zero u.kilos) && (int_le (negsuc 999999) u.kilos && int_le u.kilos (pos 1000000))
