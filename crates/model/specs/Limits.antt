-- When a limit takes a use, and when it gives one up.
use Rattle.std.specs.Prelude.{ℕ, ◌-◌, min, Bool, false, cond, ◌&&◌, length, ℤ, pos, negsuc, is_some, Some, None, Ok, Err, Option, Result, ◌==◌, nat_le, nat_lt}
use Rattle.model.specs.Uses.{Uses, standing}
use Rattle.model.specs.declared.refusals.Refusal.{Refusal}
use Rattle.model.specs.declared.refusals.Refusal.TheVariants.{NoPlace, BadUse, NumberStands, UsesFull, NotStanding}
use Rattle.model.specs.declared.slips.Use.{Use}

-- the places of a limit whose parts have w places together: none beyond the 64th
abbrev pub places_of : ℕ → ℕ
places_of w = min 64 w

-- the number of a place behind the first w, or nothing for one of these
abbrev pub behind : ℕ → ℕ → Option ℕ
behind w place = cond (nat_lt place w) None (Some (place - w))

-- the number 0 alone
abbrev pub is_zero : ℤ → Bool
is_zero (pos n) = n == 0
is_zero (negsuc n) = false

-- a slip number, and points that a sheet can have
abbrev pub in_range : ℕ → Use → Bool
in_range number u = (nat_le 1 number && nat_le number 9999) && (nat_le u.first 63 && nat_le u.last 63)

-- why a use is not taken, the first cause that applies; nothing where it is taken
abbrev pub not_taken : (w : ℕ) (most : ℕ → ℕ) (form : ℕ → Use → Bool) (us : Uses) (place number : ℕ) (u : Use) → Option Refusal
not_taken w most form us place number u =
    cond (nat_lt place (places_of w))
    (cond (in_range number u && form place u)
    (cond (is_some (us place number)) (Some NumberStands)
    (cond (nat_lt (length (standing (us place))) (most place)) None (Some (UsesFull (most place)))))
    (Some BadUse))
    (Some NoPlace)

-- why no use is given up
abbrev pub not_given_up : (w : ℕ) (us : Uses) (place number : ℕ) → Option Refusal
not_given_up w us place number = cond (nat_lt place (places_of w)) (cond (is_some (us place number)) None (Some NotStanding)) (Some NoPlace)

-- the answer of a call that is refused for this cause, if there is one
abbrev pub answer : Option Refusal → Result Unit Refusal
answer None = Ok tt
answer (Some why) = Err why

-- at place 0 of one place, what f says there
abbrev pub at_first : {X : Type 0} → X → X → ℕ → X
at_first here elsewhere place = cond (place == 0) here elsewhere

-- of two limits as one, where the first has n places, what the part says that has the place
abbrev pub of_part : {X : Type 0} → ℕ → (ℕ → X) → (ℕ → X) → ℕ → X
of_part n f g place = cond (nat_lt place n) (f place) (g (place - n))
