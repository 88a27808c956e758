-- The closure of a table.
use Rattle.model.specs.Plans.{View, Sound, Tighter}

-- m is the greatest sound table below s
pub record Greatest (s m : View) : Type 0 where
  pub sound : Sound m
  pub under : Tighter m s
  pub most : (n : View) → Sound n → Tighter n s → Tighter n m

-- no sound table is below s
abbrev pub NoneUnder : View → Type 0
NoneUnder s = (n : View) → Sound n → Tighter n s → ⊥
