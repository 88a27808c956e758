-- The day of two deliveries and of what is taken of them: every closed table has r after minute 19.
use Rattle.std.proofs.Common.{◌≡◌, true, false, List, [], ◌∷◌, pos, refl, inl, inr, arith, lit<, lit≤}
use lib.Count.{ones}
use lib.Signed.{le_z, lt_z, lt_z_yes}
use Rattle.std.proofs.lemmas.Int.{ints}
use Rattle.model.specs.Meanings.{Meaning}
use Rattle.model.specs.Plans.{View}
use Rattle.model.specs.Uses.{single}
use Rattle.model.specs.declared.moments.Moment.TheVariants.{Minute}
use Rattle.model.specs.declared.slips.Distance.{Distance}
use Rattle.model.specs.declared.verdicts.Verdict.TheVariants.{AnyPlan}
use Rattle.bunker_laws.proofs.Lawful.{bunker_lawful}
use Rattle.bunker_laws.specs.Bunkers.{Looked, Follows, Gives, Refuses}
use Rattle.worked_days.proofs.Answered.{any_plan}
use Rattle.worked_days.proofs.Listed.{owes, vouched}
use Rattle.worked_days.proofs.Tightened.{Owed, each_owed, slip_ways}
use Rattle.worked_days.specs.Days.{bunker, labels_i, empty_bunker, uses_i, slips_i, day_i}
use Rattle.worked_days.specs.Forms.{minus, table, numbered_from, slip, use_of, Tightens}
use Rattle.worked_days.specs.Worked.{rows_i, shown_i}

-- a table that is sure that p and q come after minute 19, and not sure of r
module _ (k : View) (p-later : lt_z (k.at 1 0) (minus 19) ≡ true) (q-later : lt_z (k.at 2 0) (minus 19) ≡ true) (unsure : lt_z (k.at 3 0) (minus 19) ≡ false) where
  at_19 : Looked uses_i (Minute 19)
  at_19 = Looked.minute 19 (lit≤ tt) refl

  -- r is sure to come by then, and takes what is not there
  contrary : le_z (k.at 0 3) (pos 19) ≡ true → Refuses empty_bunker uses_i k
  contrary by = Refuses.under (Minute 19) at_19 (rw (p-later, q-later, unsure, by) (lt_z_yes tt))

  -- r may come by then or not
  neither : le_z (k.at 0 3) (pos 19) ≡ false → Gives empty_bunker uses_i k 3 0 (minus 20)
  neither later =
      Gives.follows (Minute 19) at_19 (use_of 3 3 (minus 400)) (inr (inr (inl refl)))
      (Follows.waits refl (record { active_open = rw unsure refl; idle_open = rw later refl; no_room = inl (rw (p-later, q-later, unsure, later) (lt_z_yes tt)) }) (refl, refl, refl))

abbrev limits : Meaning
limits = bunker empty_bunker (single (numbered_from 1 uses_i))

abbrev r_after_19 : List Distance
r_after_19 = slip 3 0 (minus 20) ∷ []

owed : Owed 1440 4 slips_i r_after_19 limits
owed =
    each_owed 1440 4 slips_i r_after_19 limits (
      (λ k closed.
          let p-start = slip_ways 1440 4 slips_i limits k closed 1 0 (lit< tt) (lit< tt) in
          let q-start = slip_ways 1440 4 slips_i limits k closed 2 0 (lit< tt) (lit< tt) in
          let p-later : lt_z (k.at 1 0) (minus 19) ≡ true = grind (arith, ints) in
          let q-later : lt_z (k.at 2 0) (minus 19) ≡ true = grind (arith, ints) in
          owes 1440 4 (numbered_from 1 slips_i) empty_bunker uses_i (lit≤ tt) k closed 3 0 (minus 20) (lt_z (k.at 3 0) (minus 19)) (le_z (k.at 0 3) (pos 19)) (lit< tt) (lit< tt) (λ e. grind (arith, ints)) (contrary k p-later q-later) (neither k p-later q-later)),
      tt,
    )

pub i : Tightens bunker day_i shown_i AnyPlan 8 1
unfolding ones
i = any_plan bunker labels_i slips_i r_after_19 empty_bunker uses_i (bunker_lawful empty_bunker (single (numbered_from 1 uses_i))) rows_i 8 refl refl refl refl owed (vouched empty_bunker uses_i (table rows_i) refl (lit≤ tt))
