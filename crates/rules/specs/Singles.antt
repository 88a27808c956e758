-- What a limit of one place answers for its register.
use Rattle.std.specs.Prelude.{ℕ}
use Rattle.model.specs.declared.refusals.Refusal.{Refusal}
use Rattle.model.specs.declared.refusals.Refusal.TheVariants.{BadUse, NumberStands, UsesFull}
use Rattle.register.specs.declared.registers.NoInsert.{NoInsert}
use Rattle.register.specs.declared.registers.NoInsert.TheVariants.{OutOfRange, Stands, Full}

-- the refusal of a use that a register of so many records does not take
abbrev pub refusal_for : ℕ → NoInsert → Refusal
refusal_for most OutOfRange = BadUse
refusal_for most Stands = NumberStands
refusal_for most Full = UsesFull most
