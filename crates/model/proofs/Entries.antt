-- Entries of the table of a plan, and of sound tables.
use Rattle.std.proofs.Common.{◌≡◌, ℕ, ◌<◌, ◌≤◌, ◌⊎◌, pos, negsuc, ◌-ℤ◌, ◌≤ℤ◌, inl, inr, arith}
use Rattle.std.proofs.lemmas.Int.{ints}
use Rattle.std.proofs.lemmas.Bool.{cases_lt}
use Rattle.std.proofs.lemmas.Bool.Decides.{nat_tests}
use Rattle.model.specs.Plans.{Plan, View, Sound, table_of}

pub plan_entry : (n : ℕ) (t : Plan) (i j : ℕ) → i < n → j < n → (table_of n t).at i j ≡ pos (t j) -ℤ pos (t i)
plan_entry n t i j hi hj = grind (arith, nat_tests)

-- no entry of a sound table is below -10,080: 0 = m(i, i) ≤ m(i, j) + m(j, i) ≤ m(i, j) + 10,080
pub sound_low : (m : View) → Sound m → (i j : ℕ) → negsuc 10079 ≤ℤ m.at i j
sound_low m s i j = by (cases_lt i m.points) (cases_lt j m.points)
  where
    by : (i < m.points) ⊎ (m.points ≤ i) → (j < m.points) ⊎ (m.points ≤ j) → negsuc 10079 ≤ℤ m.at i j
    by (inl hi) (inl hj) = omega (arith, ints, s.triangle i j i hi hj hi, s.zero i hi, s.within j i)
    by (inl hi) (inr h) = omega (arith, ints, s.outside i j (inr h))
    by (inr h) _ = omega (arith, ints, s.outside i j (inl h))
