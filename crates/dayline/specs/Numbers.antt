-- The numbers of a day file, as bytes.
use Rattle.std.specs.Prelude.{◌≡◌, ℕ, ◌+◌, ◌-◌, ◌*◌, ◌≤◌, cond, ◌&&◌, List, [], ◌∷◌, length, ℤ, pos, negsuc, neg_ℤ, Some, None, Option, MatchOption, ◌==◌, ◌≢◌, nat_le}
use Rattle.std.specs.Option.{option_map}
use Rattle.std.specs.Fmt.{signed_decimal}

-- the number that digits write after the number n; none where a byte is no digit
abbrev pub digits_from : ℕ → List ℕ → Option ℕ
digits_from n [] = Some n
digits_from n (b ∷ bs) = cond (nat_le 48 b && nat_le b 57) (digits_from (n * 10 + (b - 48)) bs) None

-- a digit from 1 to 9 followed by any further digits
abbrev pub positive : List ℕ → Option ℕ
positive [] = None
positive (b ∷ bs) = cond (b == 48) None (digits_from 0 (b ∷ bs))

-- at most 100,000,000
abbrev pub in_range : Option ℕ → Option ℕ
in_range None = None
in_range (Some n) = cond (nat_le n 100000000) (Some n) None

abbrev pub minus : ℕ → ℤ
minus n = neg_ℤ (pos n)

-- `0`, or a positive number, or the latter with a minus before it
abbrev pub number : List ℕ → Option ℤ
number [] = None
number (b ∷ bs) =
    cond (b == 45) (option_map minus (in_range (positive bs)))
    (cond (b == 48 && length bs == 0) (Some (pos 0)) (option_map pos (in_range (positive (b ∷ bs)))))

-- from -100,000,000 to 100,000,000
abbrev pub Near : ℤ → Type 0
Near (pos n) = n ≤ 100000000
Near (negsuc n) = n ≤ 99999999

-- these bytes are read as what they write in decimals, a number that is near, or as none
abbrev pub ReadsWritten : List ℕ → Option ℤ → Type 0
ReadsWritten bs r = MatchOption r ((z : ℤ) → Near z → bs ≢ signed_decimal z) (λ z. Near z × (bs ≡ signed_decimal z))
