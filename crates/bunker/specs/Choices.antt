-- The options that a use has left.
use Rattle.std.specs.Prelude.{◌≡◌, Bool, true, false, ℤ, pos, Option, Some, None}
use Rattle.bunker.specs.declared.options.Options.{Options}
use Rattle.bunker.specs.declared.options.Worth.{Worth}
use Rattle.bunker.specs.declared.options.Options.TheVariants.{Both, Active, Idle, Neither}
use Rattle.std.specs.Int.{int_max, int_min}

-- what a use is worth at most and at least
abbrev pub high_of : Options → ℤ
high_of (Both w) = int_max w.kilos (pos 0)
high_of (Active w) = w.kilos
high_of Idle = pos 0
high_of Neither = pos 0

abbrev pub low_of : Options → ℤ
low_of (Both w) = int_min w.kilos (pos 0)
low_of (Active w) = w.kilos
low_of Idle = pos 0
low_of Neither = pos 0

-- the worth of a use to which both are left
abbrev pub both_of : Options → Option Worth
both_of (Both w) = Some w
both_of (Active w) = None
both_of Idle = None
both_of Neither = None

-- active is left for so much, or not, and so is idle
abbrev pub Leaves : Options → (active idle : Bool) → (kilos : ℤ) → Type 0
Leaves (Both w) active idle kilos = (active ≡ true) × (idle ≡ true) × (w.kilos ≡ kilos)
Leaves (Active w) active idle kilos = (active ≡ true) × (idle ≡ false) × (w.kilos ≡ kilos)
Leaves Idle active idle kilos = (active ≡ false) × (idle ≡ true)
Leaves Neither active idle kilos = (active ≡ false) × (idle ≡ false)
