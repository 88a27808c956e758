-- The options of a use beside a plan that meets the table, so the level beside the highest and the lowest told.
use Rattle.std.proofs.Common.{◌≡◌, ℕ, ◌<◌, ◌≤◌, Bool, true, false, cond, List, ℤ, pos, ◌≤ℤ◌, arith}
use Rattle.std.specs.Int.{int_max, int_min}
use Rattle.std.proofs.lemmas.Int.{ints}
use Rattle.std.proofs.lemmas.Bool.Decides.{nat_tests}
use Rattle.model.specs.Plans.{Plan, PlanOf, View, Meets, Sound}
use Rattle.model.specs.Uses.{In}
use Rattle.model.specs.declared.moments.Moment.{Moment}
use Rattle.model.specs.declared.slips.Use.{Use}
use Rattle.bunker_laws.specs.declared.settings.Settings.{Settings}
use Rattle.bunker_laws.specs.Bunkers.{worth, active, level_at, minute_of, Looked, can_be_active, can_be_idle, high, low, highest, lowest}
use Rattle.bunker_laws.proofs.Moments.{by_holds, after_holds}
use Rattle.bunker_laws.proofs.Sums.{total_le}

-- the table has the points of the uses
abbrev pub Has : List Use → View → Type 0
Has us m = (u : Use) → In u us → (u.first < m.points) × (u.last < m.points)

-- a plan that meets a sound table with the points of the uses
pub record Meeting (us : List Use) (m : View) (t : Plan) : Type 0 where
  pub sound : Sound m
  pub has : Has us m
  pub plan : PlanOf m.points 10080 t
  pub meets : Meets t m

-- what a use adds to the level at minute k
abbrev pub adds : Plan → ℕ → Use → ℤ
adds t k u = cond (active t k u) (worth u) (pos 0)

-- an option that is open is worth no more than the highest and no less than the lowest
taken_high : (taken active idle : Bool) (w : ℤ) → (taken ≡ true → active ≡ true) → (taken ≡ false → idle ≡ true) → cond taken w (pos 0) ≤ℤ cond active (cond idle (int_max w (pos 0)) w) (pos 0)
taken_high taken active idle w a i = grind (arith, ints)

taken_low : (taken active idle : Bool) (w : ℤ) → (taken ≡ true → active ≡ true) → (taken ≡ false → idle ≡ true) → cond active (cond idle (int_min w (pos 0)) w) (pos 0) ≤ℤ cond taken w (pos 0)
taken_low taken active idle w a i = grind (arith, ints)

module _ (us : List Use) (m : View) (t : Plan) (g : Meeting us m t) where
  -- a moment that is looked at lies in the plan's day
  pub looked_within : (x : Moment) → Looked us x → minute_of t x ≤ 10080
  looked_within x (Looked.minute k l e) = rw e l
  looked_within x (Looked.first u i e) = rw e (g.plan.within u.first (g.has u i).0)
  looked_within x (Looked.last u i e) = rw e (g.plan.within u.last (g.has u i).1)

  module _ (x : Moment) where
    -- the option that the plan takes is open
    open_active : (u : Use) → In u us → active t (minute_of t x) u ≡ true → can_be_active m x u ≡ true
    open_active u i h =
        let a = after_holds m t u.first x g.sound g.plan.opening g.meets (g.has u i).0 in
        let b = by_holds m t u.last x g.sound g.plan.opening g.meets (g.has u i).1 in
        grind (arith, nat_tests)

    open_idle : (u : Use) → In u us → active t (minute_of t x) u ≡ false → can_be_idle m x u ≡ true
    open_idle u i h =
        let a = by_holds m t u.first x g.sound g.plan.opening g.meets (g.has u i).0 in
        let b = after_holds m t u.last x g.sound g.plan.opening g.meets (g.has u i).1 in
        grind (arith, nat_tests)

    pub adds_high : (u : Use) → In u us → adds t (minute_of t x) u ≤ℤ high m x u
    adds_high u i = taken_high (active t (minute_of t x) u) (can_be_active m x u) (can_be_idle m x u) (worth u) (open_active u i) (open_idle u i)

    pub adds_low : (u : Use) → In u us → low m x u ≤ℤ adds t (minute_of t x) u
    adds_low u i = taken_low (active t (minute_of t x) u) (can_be_active m x u) (can_be_idle m x u) (worth u) (open_active u i) (open_idle u i)

    pub level_high : (s : Settings) → level_at s us t (minute_of t x) ≤ℤ highest s us m x
    level_high s = omega (arith, ints, total_le us (adds t (minute_of t x)) (high m x) adds_high)

    pub level_low : (s : Settings) → lowest s us m x ≤ℤ level_at s us t (minute_of t x)
    level_low s = omega (arith, ints, total_le us (low m x) (adds t (minute_of t x)) adds_low)
