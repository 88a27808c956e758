-- A bunker keeps the laws of a rule.
use Rattle.std.proofs.Common.{ℕ, Bool, true, false, cond, eqb, List, ℤ, negsuc, ◌≤ℤ◌, Some, None, arith, MatchOption}
use Rattle.std.proofs.lemmas.Int.{ints}
use Rattle.model.specs.Meanings.{Lawful}
use Rattle.model.specs.Plans.{Plan, PlanOf, View, Meets, Sound, table_of}
use Rattle.model.specs.Uses.{Uses, standing, Holds}
use Rattle.model.specs.declared.moments.Moment.{Moment}
use Rattle.model.specs.declared.moments.Moment.TheVariants.{Point, Minute}
use Rattle.model.specs.declared.slips.Use.{Use}
use Rattle.model.proofs.Gathers.{held_points}
use Rattle.bunker_laws.specs.declared.settings.Settings.{Settings}
use Rattle.bunker_laws.specs.Bunkers.{level_at, minute_of, highest, lowest, meaning, ByBound, AfterBound, Looked, Follows, Gives}
use Rattle.bunker_laws.proofs.Decides.{plan_vouched}
use Rattle.bunker_laws.proofs.Keeps.{not_refused_holds, gives_within}
use Rattle.bunker_laws.proofs.Narrows.{refuses_too, gives_too}
use Rattle.bunker_laws.proofs.Options.{Has, Meeting, level_high, level_low}
use Rattle.bunker_laws.proofs.Stands.{vouched_allows}

-- ---- how low a bound can be

by_depth : (p : ℕ) (x : Moment) (i j : ℕ) (b : ℤ) → ByBound p x i j b → negsuc 10080 ≤ℤ b
by_depth p x i j b h = grind (arith, ints)

after_depth : (us : List Use) (p : ℕ) (x : Moment) (i j : ℕ) (b : ℤ) → Looked us x → AfterBound p x i j b → negsuc 10080 ≤ℤ b
after_depth us p x i j b (Looked.minute k l e) h = let at : AfterBound p (Minute k) i j b = rw e at h in omega (arith, ints)
after_depth us p x i j b (Looked.first u n e) h = let at : AfterBound p (Point u.first) i j b = rw e at h in omega (arith, ints)
after_depth us p x i j b (Looked.last u n e) h = let at : AfterBound p (Point u.last) i j b = rw e at h in omega (arith, ints)

gives_depth : (s : Settings) (us : List Use) (m : View) (i j : ℕ) (b : ℤ) → Gives s us m i j b → negsuc 10080 ≤ℤ b
gives_depth s us m i j b (Gives.order u h loan i-is j-is b-is) = omega (arith, ints)
gives_depth s us m i j b (Gives.follows x looked u h (Follows.starts r by)) = by_depth u.first x i j b by
gives_depth s us m i j b (Gives.follows x looked u h (Follows.lasts loan r after)) = after_depth us u.last x i j b looked after
gives_depth s us m i j b (Gives.follows x looked u h (Follows.waits late r after)) = after_depth us u.first x i j b looked after
gives_depth s us m i j b (Gives.follows x looked u h (Follows.ends loan began r by)) = by_depth u.last x i j b by

-- ---- the laws

-- levels between two that are told, if they are
between : (here : Bool) (high low level : ℤ) → low ≤ℤ level → level ≤ℤ high → MatchOption {T = ℤ × ℤ} (cond here (Some (high, low)) None) (Unit {0}) (λ told. (told.1 ≤ℤ level) × (level ≤ℤ told.0))
between true high low level l h = (l, h)
between false high low level l h = tt

module _ (us : Uses) where
  holds_has : (m : View) → Holds us m → Has (standing (us 0)) m
  holds_has m holds u i = held_points us m 0 u holds i

  meeting : (m : View) (t : Plan) → Sound m → Holds us m → PlanOf m.points 10080 t → Meets t m → Meeting (standing (us 0)) m t
  meeting m t sound holds plan meets = record { sound = sound; has = holds_has m holds; plan = plan; meets = meets }

pub bunker_lawful : (s : Settings) (us : Uses) → Lawful us (meaning s us)
bunker_lawful s us = record {
  keeps = λ m t sound holds plan meets allows.
      let g = meeting us m t sound holds plan meets in
      (not_refused_holds s (standing (us 0)) m t g allows, gives_within s (standing (us 0)) m t g allows);
  narrows = λ m n sm sn holds tight fine.
      let has = holds_has us m holds in
      ((λ r. fine (refuses_too s (standing (us 0)) m n sm sn has tight r)), gives_too s (standing (us 0)) m n sm sn has tight fine);
  stands = λ m t sound holds plan meets vouches. vouched_allows s (standing (us 0)) m t (meeting us m t sound holds plan meets) vouches;
  decides = λ n t some holds plan fine. plan_vouched s (standing (us 0)) n t (holds_has us (table_of n t) holds) fine;
  spans = λ m t sound holds plan meets place x.
      let g = meeting us m t sound holds plan meets in
      between (eqb place 0) (highest s (standing (us 0)) m x) (lowest s (standing (us 0)) m x) (level_at s (standing (us 0)) t (minute_of t x)) (level_low (standing (us 0)) m t g x s) (level_high (standing (us 0)) m t g x s);
  depth = gives_depth s (standing (us 0));
}
