-- Each entry of a sound table is reached by a plan that meets the table. So where every such plan is allowed, a lawful rule does not
-- refuse the table, and gives no bound below an entry.
use Rattle.std.proofs.Common.{◌≡◌, ℕ, ◌<◌, ℤ, pos, negsuc, ◌-ℤ◌, nat_abs, ◌≤ℤ◌, refl, arith}
use Rattle.std.proofs.lemmas.Int.{ints}
use Rattle.model.specs.Meanings.{Meaning, Lawful}
use Rattle.model.specs.Plans.{Plan, PlanOf, View, Within, Meets, Sound}
use Rattle.model.specs.Uses.{Uses, Holds}

abs_is : (z : ℤ) → pos 0 ≤ℤ z → pos (nat_abs z) ≡ z
abs_is (pos n) h = refl
abs_is (negsuc n) h = absurd (omega (arith, ints))

-- a table in which no point comes before opening
module _ (m : View) (sound : Sound m) (opening : (i : ℕ) → i < m.points → m.at i 0 ≤ℤ pos 0) where
  -- i as early, and each other point as late after it, as the table allows
  abbrev pub latest : ℕ → Plan
  latest i x = nat_abs (m.at i x -ℤ m.at i 0)

  latest_is : (i x : ℕ) → i < m.points → x < m.points → pos (latest i x) ≡ m.at i x -ℤ m.at i 0
  latest_is i x hi hx = abs_is (m.at i x -ℤ m.at i 0) (omega (arith, ints, sound.triangle i x 0 hi hx sound.some, opening x hx))

  latest_plan : (i : ℕ) → i < m.points → PlanOf m.points 10080 (latest i)
  latest_plan i hi = record {
    opening = omega (arith, ints, latest_is i 0 hi sound.some);
    within = λ x hx. omega (arith, ints, latest_is i x hi hx, sound.triangle i 0 x hi sound.some hx, sound.within 0 x);
  }

  latest_meets : (i : ℕ) → i < m.points → Meets (latest i) m
  latest_meets i hi x y hx hy = omega (arith, ints, latest_is i x hi hx, latest_is i y hi hy, sound.triangle i x y hi hx hy)

  -- a bound that the plan keeps is no lower than the entry
  latest_reaches : (i j : ℕ) (b : ℤ) → i < m.points → j < m.points → Within (latest i) i j b → m.at i j ≤ℤ b
  latest_reaches i j b hi hj w = omega (arith, ints, latest_is i i hi hi, latest_is i j hi hj, sound.zero i hi)

  module _ (us : Uses) (r : Meaning) (lawful : Lawful us r) (holds : Holds us m) (allowed : (t : Plan) → PlanOf m.points 10080 t → Meets t m → r.allows t) where
    kept : (i : ℕ) → i < m.points → (r.refuses m → ⊥) × ((x j : ℕ) (b : ℤ) → r.gives m x j b → Within (latest i) x j b)
    kept i hi = lawful.keeps m (latest i) sound holds (latest_plan i hi) (latest_meets i hi) (allowed (latest i) (latest_plan i hi) (latest_meets i hi))

    pub not_refused_holds : r.refuses m → ⊥
    not_refused_holds = (kept 0 sound.some).0

    pub not_bounded : (i j : ℕ) (b : ℤ) → i < m.points → j < m.points → r.gives m i j b → m.at i j ≤ℤ b
    not_bounded i j b hi hj g = latest_reaches i j b hi hj ((kept i hi).1 i j b g)
