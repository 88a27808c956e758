-- What the calls of a limit tell of its uses, and what they do to them.
use Rattle.std.specs.Prelude.{◌≡◌, ℕ, cond, true, is_some, is_ok, Option, Result}
use Rattle.model.specs.Uses.{Uses, put}
use Rattle.model.specs.declared.refusals.Refusal.{Refusal}
use Rattle.model.specs.declared.slips.Use.{Use}

-- some use stands, at some place under some number
abbrev pub AnyUse : Uses → Type 0
AnyUse us = (place : ℕ) × (number : ℕ) × (is_some (us place number) ≡ true)

-- the uses after a call: o at one place under one number where it was accepted, and otherwise the same
abbrev pub put_if_ok : Result Unit Refusal → Uses → ℕ → ℕ → Option Use → Uses
put_if_ok r us place number o = cond (is_ok r) (put us place number o) us
