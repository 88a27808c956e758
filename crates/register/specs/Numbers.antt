-- Which numbers slips have.
use Rattle.std.specs.Prelude.{ℕ, Bool, ◌&&◌, nat_le}

-- 1 to 9,999
abbrev pub is_number : ℕ → Bool
is_number n = nat_le 1 n && nat_le n 9999
