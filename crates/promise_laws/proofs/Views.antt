-- The table of a plan; which tables hold all uses; when two sound tables are one.
use Rattle.std.proofs.Common.{◌≡◌, ℕ, ◌<◌, arith}
use Rattle.std.proofs.lemmas.Int.{ints}
use Rattle.std.proofs.lemmas.Bool.{cases_lt}
use Rattle.std.proofs.lemmas.Bool.Decides.{nat_tests}
use Rattle.model.proofs.Entries.{plan_entry}
use Rattle.model.specs.Plans.{Plan, PlanOf, View, Meets, Sound, table_of}
use Rattle.model.specs.Uses.{Uses, Holds}
use Rattle.promise_laws.specs.Held.{UsesHeld}

-- ---- the table of a plan

pub plan_sound : (n : ℕ) (t : Plan) → 0 < n → PlanOf n 10080 t → Sound (table_of n t)
plan_sound n t some plan = record {
  some = some;
  within = λ i j. grind (arith, ints, nat_tests, plan.within j);
  outside = λ i j o. grind (arith, nat_tests);
  zero = λ i a. omega (arith, ints, plan_entry n t i i a a);
  triangle = λ i j k a b c. omega (arith, ints, plan_entry n t i j a b, plan_entry n t j k b c, plan_entry n t i k a c);
}

pub plan_met : (n : ℕ) (t : Plan) → Meets t (table_of n t)
plan_met n t i j a b = omega (arith, ints, plan_entry n t i j a b)

-- ---- tables that hold all uses

pub uses_in : (n : ℕ) (us : Uses) (m : View) → UsesHeld n us → m.points ≡ n → Holds us m
uses_in n us m held points place number u stands = let l = held place number u stands in (omega arith, omega arith)

-- ---- sound tables

-- an entry outside is 10,080 in both
pub views_same : (m k : View) → Sound m → Sound k → m.points ≡ k.points → ((i j : ℕ) → i < m.points → j < m.points → m.at i j ≡ k.at i j) → m ≡ k
views_same m k sm sk same inside = λ x. record { points = same x; at = λ i j. by_place i j x }
  where
    by_place : (i j : ℕ) → m.at i j ≡ k.at i j
    by_place i j = grind (arith, cases_lt i m.points, cases_lt j m.points, inside i j, sm.outside i j, sk.outside i j)
