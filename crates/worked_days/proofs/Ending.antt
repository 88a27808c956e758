-- The day of a loan that is followed by another: every closed table has the first over by minute 10.
use Rattle.std.proofs.Common.{◌≡◌, true, false, List, [], ◌∷◌, pos, ◌≤ℤ◌, refl, inl, arith, lit<, lit≤}
use lib.Count.{ones}
use lib.Signed.{lt_z_yes}
use Rattle.std.proofs.lemmas.Int.{ints}
use Rattle.model.specs.Closed.{Closed}
use Rattle.model.specs.Meanings.{Meaning}
use Rattle.model.specs.Plans.{View}
use Rattle.model.specs.Uses.{single}
use Rattle.model.specs.declared.moments.Moment.TheVariants.{Minute}
use Rattle.model.specs.declared.slips.Distance.{Distance}
use Rattle.model.specs.declared.verdicts.Verdict.TheVariants.{AnyPlan}
use Rattle.bunker_laws.proofs.Lawful.{bunker_lawful}
use Rattle.bunker_laws.specs.Bunkers.{sure_by, sure_after, Looked, Follows, Gives, Refuses}
use Rattle.worked_days.proofs.Answered.{any_plan}
use Rattle.worked_days.proofs.Listed.{owes, vouched}
use Rattle.worked_days.proofs.Tests.{le_from}
use Rattle.worked_days.proofs.Tightened.{each_owed, slip_ways}
use Rattle.worked_days.specs.Days.{bunker, labels_l, one_kilo, uses_l, slips_l, day_l}
use Rattle.worked_days.specs.Forms.{table, numbered_from, slip, use_of, Tightens}
use Rattle.worked_days.specs.Worked.{rows_l, shown_l}

-- a table that is sure that the second loan is out at minute 10, and has opening at minute 0
pub record OutAtTen (k : View) : Type 0 where
  pub opened : k.at 0 0 ≡ pos 0
  pub begun : sure_by k 2 (Minute 10) ≡ true
  pub not_later : sure_after k 2 (Minute 10) ≡ false
  pub lasting : sure_after k 3 (Minute 10) ≡ true
  pub not_over : sure_by k 3 (Minute 10) ≡ false

-- and that is not sure that the first is over by then
module _ (k : View) (g : OutAtTen k) (unsure : sure_by k 1 (Minute 10) ≡ false) where
  at_10 : Looked uses_l (Minute 10)
  at_10 = Looked.minute 10 (lit≤ tt) refl

  -- it is sure that both are out
  contrary : sure_after k 1 (Minute 10) ≡ true → Refuses one_kilo uses_l k
  contrary after = Refuses.under (Minute 10) at_10 (rw (g.opened, g.begun, g.not_later, g.lasting, g.not_over, unsure, after) (lt_z_yes tt))

  -- the first may be over
  neither : sure_after k 1 (Minute 10) ≡ false → Gives one_kilo uses_l k 0 1 (pos 10)
  neither before =
      Gives.follows (Minute 10) at_10 (use_of 0 1 (pos 1)) (inl refl)
      (Follows.ends refl (rw g.opened refl)
      (record {
        active_open = rw (g.opened, unsure) refl;
        idle_open = rw (g.opened, before) refl;
        no_room = inl (rw (g.opened, g.begun, g.not_later, g.lasting, g.not_over, unsure, before) (lt_z_yes tt));
      })
      (refl, refl, refl))

abbrev limits : Meaning
limits = bunker one_kilo (single (numbered_from 1 uses_l))

module _ (k : View) (closed : Closed 1440 4 (numbered_from 1 slips_l) limits k) where
  out_at_ten : OutAtTen k
  out_at_ten =
      let points = closed.points in
      let zero = closed.sound.zero 0 (omega arith) in
      let ten-by = slip_ways 1440 4 slips_l limits k closed 0 2 (lit< tt) (lit< tt) in
      let twenty-from = slip_ways 1440 4 slips_l limits k closed 3 0 (lit< tt) (lit< tt) in
      let ten-back = closed.sound.triangle 0 2 0 (omega arith) (omega arith) (omega arith) in
      let twenty-back = closed.sound.triangle 0 3 0 (omega arith) (omega arith) (omega arith) in
      record { opened = zero; begun = grind (arith, ints); not_later = grind (arith, ints); lasting = grind (arith, ints); not_over = grind (arith, ints) }

  over_by_10 : k.at 0 1 ≤ℤ pos 10
  over_by_10 =
      owes 1440 4 (numbered_from 1 slips_l) one_kilo uses_l (lit≤ tt) k closed 0 1 (pos 10) (sure_by k 1 (Minute 10)) (sure_after k 1 (Minute 10)) (lit< tt) (lit< tt)
      (le_from (k.at 0 1) (pos 10))
      (contrary k out_at_ten)
      (neither k out_at_ten)

abbrev b_by_10 : List Distance
b_by_10 = slip 0 1 (pos 10) ∷ []

pub l : Tightens bunker day_l shown_l AnyPlan 2 1
unfolding ones
l =
    any_plan bunker labels_l slips_l b_by_10 one_kilo uses_l (bunker_lawful one_kilo (single (numbered_from 1 uses_l))) rows_l 2 refl refl refl refl
    (each_owed 1440 4 slips_l b_by_10 limits (over_by_10, tt))
    (vouched one_kilo uses_l (table rows_l) refl (lit≤ tt))
