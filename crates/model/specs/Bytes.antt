-- The bytes that a label may have.
use Rattle.std.specs.Prelude.{ℕ, Bool, ◌&&◌, ◌||◌, nat_le}

-- a-z or 0-9
abbrev pub label_byte : ℕ → Bool
label_byte b = (nat_le 97 b && nat_le b 122) || (nat_le 48 b && nat_le b 57)
