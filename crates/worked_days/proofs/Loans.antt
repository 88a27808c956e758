-- The day of two loans of one kilo: every closed table has the end of the first loan by the start of the second.
use Rattle.std.proofs.Common.{◌≡◌, true, false, List, [], ◌∷◌, pos, refl, inl, inr, arith, lit<, lit≤}
use lib.Count.{ones}
use lib.Signed.{le_z, lt_z, lt_z_yes}
use Rattle.std.proofs.lemmas.Int.{ints}
use Rattle.model.specs.Closed.{Closed}
use Rattle.model.specs.Meanings.{Meaning}
use Rattle.model.specs.Plans.{View}
use Rattle.model.specs.Uses.{single}
use Rattle.model.specs.declared.moments.Moment.TheVariants.{Point}
use Rattle.model.specs.declared.slips.Distance.{Distance}
use Rattle.model.specs.declared.verdicts.Verdict.TheVariants.{AnyPlan}
use Rattle.bunker_laws.proofs.Lawful.{bunker_lawful}
use Rattle.bunker_laws.specs.Bunkers.{Looked, Follows, Gives, Refuses}
use Rattle.worked_days.proofs.Answered.{any_plan}
use Rattle.worked_days.proofs.Listed.{owes, vouched}
use Rattle.worked_days.proofs.Tests.{le_from}
use Rattle.worked_days.proofs.Tightened.{Owed, each_owed, slip_ways}
use Rattle.worked_days.specs.Days.{bunker, labels_f, one_kilo, uses_f, slips_f, day_f}
use Rattle.worked_days.specs.Forms.{table, numbered_from, slip, use_of, Tightens}
use Rattle.worked_days.specs.Worked.{rows_f, shown_f}

-- a table in which the second loan is out from a on, and opening is no later than a
pub record Begun (k : View) : Type 0 where
  pub same : k.at 2 2 ≡ pos 0
  pub not_over : le_z (k.at 2 3) (pos 0) ≡ false
  pub out : lt_z (k.at 3 2) (pos 0) ≡ true
  pub opened : le_z (k.at 2 0) (pos 0) ≡ true
  pub not_before : lt_z (k.at 0 2) (pos 0) ≡ false

-- and that is not sure that the first loan is over by a
module _ (k : View) (g : Begun k) (unsure : le_z (k.at 2 1) (pos 0) ≡ false) where
  at_a : Looked uses_f (Point 2)
  at_a = Looked.first (use_of 2 3 (pos 1)) (inr (inl refl)) refl

  -- it is sure that both are out at a
  contrary : lt_z (k.at 1 2) (pos 0) ≡ true → Refuses one_kilo uses_f k
  contrary after = Refuses.under (Point 2) at_a (rw (g.same, g.not_over, g.out, g.opened, g.not_before, after, unsure) (lt_z_yes tt))

  -- the first may be over
  neither : lt_z (k.at 1 2) (pos 0) ≡ false → Gives one_kilo uses_f k 2 1 (pos 0)
  neither before =
      Gives.follows (Point 2) at_a (use_of 0 1 (pos 1)) (inl refl)
      (Follows.ends refl g.opened
      (record {
        active_open = rw (g.not_before, unsure) refl;
        idle_open = rw (g.opened, before) refl;
        no_room = inl (rw (g.same, g.not_over, g.out, g.opened, g.not_before, before, unsure) (lt_z_yes tt));
      })
      (refl, refl, refl))

abbrev limits : Meaning
limits = bunker one_kilo (single (numbered_from 1 uses_f))

begun : (k : View) → Closed 1440 4 (numbered_from 1 slips_f) limits k → Begun k
begun k closed =
    let points = closed.points in
    let same = closed.sound.zero 2 (omega arith) in
    let back = slip_ways 1440 4 slips_f limits k closed 3 2 (lit< tt) (lit< tt) in
    let start = closed.opening 2 (lit< tt) in
    let there = closed.sound.triangle 2 3 2 (omega arith) (omega arith) (omega arith) in
    let whole = closed.sound.triangle 2 0 2 (omega arith) (omega arith) (omega arith) in
    record { same = same; not_over = grind (arith, ints); out = grind (arith, ints); opened = grind (arith, ints); not_before = grind (arith, ints) }

abbrev over_by_a : List Distance
over_by_a = slip 2 1 (pos 0) ∷ []

owed : Owed 1440 4 slips_f over_by_a limits
owed =
    each_owed 1440 4 slips_f over_by_a limits
    ((λ k closed. owes 1440 4 (numbered_from 1 slips_f) one_kilo uses_f (lit≤ tt) k closed 2 1 (pos 0) (le_z (k.at 2 1) (pos 0)) (lt_z (k.at 1 2) (pos 0)) (lit< tt) (lit< tt) (le_from (k.at 2 1) (pos 0)) (contrary k (begun k closed)) (neither k (begun k closed))), tt)

pub f : Tightens bunker day_f shown_f AnyPlan 12 2
unfolding ones
f = any_plan bunker labels_f slips_f over_by_a one_kilo uses_f (bunker_lawful one_kilo (single (numbered_from 1 uses_f))) rows_f 12 refl refl refl refl owed (vouched one_kilo uses_f (table rows_f) refl (lit≤ tt))
