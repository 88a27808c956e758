-- The days of distances alone.
use Rattle.std.proofs.Common.{◌≡◌, ◌+◌, [], pos, sym, refl, subst, inl, inr, arith, lit<, lit≤}
use lib.Count.{ones}
use lib.Signed.{lt_z_yes}
use Rattle.std.proofs.lemmas.Int.{ints}
use Rattle.model.specs.Meanings.{Meaning}
use Rattle.model.specs.Plans.{Plan, View, Meets}
use Rattle.model.specs.Uses.{standing, single}
use Rattle.model.specs.declared.slips.Use.{Use}
use Rattle.model.specs.declared.verdicts.Verdict.TheVariants.{NoPlan, AnyPlan}
use Rattle.runs.specs.Shown.{Shown}
use Rattle.weighbridge_laws.proofs.Lawful.{weighbridge_lawful}
use Rattle.weighbridge_laws.specs.Weighbridges.{Vouches, Two}
use Rattle.worked_days.proofs.Answered.{any_plan, no_plan_holds}
use Rattle.worked_days.proofs.Numbered.{standing_is}
use Rattle.worked_days.proofs.Tightened.{each_owed}
use Rattle.worked_days.specs.Days.{weighbridge, labels_b, slips_b, day_a, day_b}
use Rattle.worked_days.specs.Forms.{table, numbered_from, Tightens}
use Rattle.worked_days.specs.Worked.{rows_a, rows_b, shown_a, shown_b}

no_two : (x y : Use) → Two x y [] → ⊥
no_two x y (inl h) = h
no_two x y (inr h) = h

-- where no use stands, any table is vouched for
unused : (m : View) → Vouches (standing (numbered_from {X = Use} 1 [])) m
unused m = subst (λ us. Vouches us m) (sym (standing_is {X = Use} [] (lit≤ tt))) (record { order = λ u h. absurd h; apart = λ x y h. absurd (no_two x y h) })

-- a weighbridge without uses
abbrev limits : Meaning
limits = weighbridge tt (single (numbered_from 1 []))

pub a : Tightens weighbridge day_a shown_a AnyPlan 0 0
unfolding ones
a = any_plan weighbridge [] [] [] tt [] (weighbridge_lawful (single (numbered_from 1 []))) rows_a 0 refl refl refl refl (each_owed 1440 1 [] [] limits tt) (unused (table rows_a))

pub b : Tightens weighbridge (day_b (pos 1)) shown_b AnyPlan 6 2
unfolding ones
b = any_plan weighbridge labels_b (slips_b (pos 1)) [] tt [] (weighbridge_lawful (single (numbered_from 1 []))) rows_b 6 refl refl refl refl (each_owed 1440 3 (slips_b (pos 1)) [] limits tt) (unused (table rows_b))

pub b_next_holds : (t : Plan) → Meets t (table rows_b) → t 2 ≡ t 1 + 1
b_next_holds t meets = omega (arith, ints, meets 1 2 (lit< tt) (lit< tt), meets 2 1 (lit< tt) (lit< tt))

pub b_none_holds : Tightens weighbridge (day_b (pos 0)) Shown.no_plan NoPlan 0 0
b_none_holds = no_plan_holds weighbridge labels_b (slips_b (pos 0)) [] tt [] (each_owed 1440 3 (slips_b (pos 0)) [] limits tt) 1 (lit< tt) (lt_z_yes tt)
