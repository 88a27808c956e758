-- The days of a bunker that p fills and r empties: every closed table has p by r.
use Rattle.std.proofs.Common.{◌≡◌, ℕ, true, false, List, [], ◌∷◌, length, ℤ, pos, Some, Ok, sym, refl, subst, inl, inr, arith, lit<, lit≤}
use lib.Count.{ones}
use lib.Signed.{le_z, lt_z, lt_z_yes}
use Rattle.model.specs.Meanings.{Meaning}
use Rattle.model.specs.Plans.{View}
use Rattle.model.specs.Uses.{single}
use Rattle.model.specs.declared.moments.Moment.TheVariants.{Point, Minute}
use Rattle.model.specs.declared.slips.Distance.{Distance}
use Rattle.model.specs.declared.slips.Use.{Use}
use Rattle.model.specs.declared.verdicts.Verdict.TheVariants.{NoPlan, AnyPlan}
use Rattle.bunker_laws.proofs.Lawful.{bunker_lawful}
use Rattle.bunker_laws.specs.Bunkers.{Looked, Follows, Gives, Refuses}
use Rattle.runs.specs.Shown.{Shown}
use Rattle.worked_days.proofs.Answered.{marked, any_plan, no_plan_holds}
use Rattle.worked_days.proofs.Listed.{levels_listed, owes, all_clear, vouched}
use Rattle.worked_days.proofs.Rows.{fits}
use Rattle.worked_days.proofs.Tests.{le_from}
use Rattle.worked_days.proofs.Tightened.{Owed, each_owed, named}
use Rattle.worked_days.specs.Days.{bunker, levels_at, labels_c, empty_bunker, uses_c, day_of400, slips_c, slips_d, slips_e, day_c, day_d, day_e}
use Rattle.worked_days.specs.Forms.{minus, table, numbered_from, slip, use_of, Tightens}
use Rattle.worked_days.specs.Worked.{rows_c, rows_d, shown_c, shown_d}

abbrev taken : Use
taken = use_of 2 2 (minus 400)

-- a table that is not sure that p comes by r
module _ (k : View) (same : k.at 2 2 ≡ pos 0) (unsure : le_z (k.at 2 1) (pos 0) ≡ false) where
  at_r : Looked uses_c (Point 2)
  at_r = Looked.first taken (inr (inl refl)) refl

  -- p is sure to come after r, which takes what is not there
  contrary : lt_z (k.at 1 2) (pos 0) ≡ true → Refuses empty_bunker uses_c k
  contrary after = Refuses.under (Point 2) at_r (rw (same, after) (lt_z_yes tt))

  -- p may come before or after r
  neither : lt_z (k.at 1 2) (pos 0) ≡ false → Gives empty_bunker uses_c k 2 1 (pos 0)
  neither before =
      Gives.follows (Point 2) at_r (use_of 1 1 (pos 400)) (inl refl)
      (Follows.starts (record { active_open = rw before refl; idle_open = rw unsure refl; no_room = inl (rw (same, before, unsure) (lt_z_yes tt)) }) (refl, refl, refl))

abbrev p_by_r : List Distance
p_by_r = slip 2 1 (pos 0) ∷ []

module _ (ss : List Distance) where
  abbrev limits : Meaning
  limits = bunker empty_bunker (single (numbered_from 1 uses_c))

  owed : Owed 1440 3 ss p_by_r limits
  owed =
      each_owed 1440 3 ss p_by_r limits (
        (λ k closed.
            let points = closed.points in
            let same = closed.sound.zero 2 (omega arith) in
            owes 1440 3 (numbered_from 1 ss) empty_bunker uses_c (lit≤ tt) k closed 2 1 (pos 0) (le_z (k.at 2 1) (pos 0)) (lt_z (k.at 1 2) (pos 0)) (lit< tt) (lit< tt) (le_from (k.at 2 1) (pos 0)) (contrary k same) (neither k same)),
        tt,
      )

  -- a day whose table passes the tests
  tightened : (rows : List (List ℤ)) (word : ℕ) → length rows ≡ 3 → fits 1440 ss p_by_r rows ≡ true → named (length rows) uses_c ≡ true → marked (table rows) (length rows) word ≡ true → all_clear empty_bunker uses_c (table rows) ≡ true → Tightens bunker (day_of400 ss) (Shown.bounds (table rows) true) AnyPlan word (ones word)
  tightened rows word three passed names marks clear =
      any_plan bunker labels_c ss p_by_r empty_bunker uses_c (bunker_lawful empty_bunker (single (numbered_from 1 uses_c))) rows word three passed names marks
      (subst (λ n. Owed 1440 n ss p_by_r limits) (sym three) owed)
      (vouched empty_bunker uses_c (table rows) clear (lit≤ tt))

pub c : Tightens bunker day_c shown_c AnyPlan 6 2
unfolding ones
c = tightened slips_c rows_c 6 refl refl refl refl refl

pub c_before_holds : levels_at day_c shown_c (Minute 19) ≡ Ok (Some (pos 400, pos 0))
c_before_holds = levels_listed empty_bunker uses_c (table rows_c) (Minute 19) (lit≤ tt)

pub c_first_holds : levels_at day_c shown_c (Minute 20) ≡ Ok (Some (pos 400, minus 400))
c_first_holds = levels_listed empty_bunker uses_c (table rows_c) (Minute 20) (lit≤ tt)

pub d : Tightens bunker day_d shown_d AnyPlan 0 0
unfolding ones
d = tightened slips_d rows_d 0 refl refl refl refl refl

pub d_levels_hold : levels_at day_d shown_d (Minute 20) ≡ Ok (Some (pos 0, pos 0))
d_levels_hold = levels_listed empty_bunker uses_c (table rows_d) (Minute 20) (lit≤ tt)

pub e : Tightens bunker day_e Shown.no_plan NoPlan 0 0
e = no_plan_holds bunker labels_c slips_e p_by_r empty_bunker uses_c (owed slips_e) 1 (lit< tt) (lt_z_yes tt)
