-- The day of a loan that makes room: every closed table has it out from minute 10 to minute 20.
use Rattle.std.proofs.Common.{◌≡◌, ℕ, ◌≤◌, true, false, not, ◌&&◌, List, [], ◌∷◌, pos, negsuc, ◌≤ℤ◌, refl, inl, inr, arith, lit<, lit≤}
use lib.Count.{ones}
use lib.Signed.{lt_z_yes}
use Rattle.std.proofs.lemmas.Int.{ints}
use Rattle.std.proofs.lemmas.Bool.{and_right, not_from_false, not-true, not-false}
use Rattle.model.specs.Closed.{Closed}
use Rattle.model.specs.Meanings.{Meaning}
use Rattle.model.specs.Plans.{View}
use Rattle.model.specs.Uses.{single}
use Rattle.model.specs.declared.moments.Moment.TheVariants.{Minute}
use Rattle.model.specs.declared.slips.Distance.{Distance}
use Rattle.model.specs.declared.slips.Use.{Use}
use Rattle.model.specs.declared.verdicts.Verdict.TheVariants.{AnyPlan}
use Rattle.bunker_laws.proofs.Lawful.{bunker_lawful}
use Rattle.bunker_laws.specs.Bunkers.{sure_by, sure_after, Looked, can_be_active, can_be_idle, RuledOut, Follows, Gives, Refuses}
use Rattle.worked_days.proofs.Answered.{any_plan}
use Rattle.worked_days.proofs.Listed.{owes, vouched}
use Rattle.worked_days.proofs.Tests.{le_from}
use Rattle.worked_days.proofs.Tightened.{each_owed, slip_ways}
use Rattle.worked_days.specs.Days.{bunker, labels_j, one_kilo, uses_j, slips_j, day_j}
use Rattle.worked_days.specs.Forms.{minus, table, numbered_from, slip, use_of, Tightens}
use Rattle.worked_days.specs.Worked.{rows_j, shown_j}

abbrev loan : Use
loan = use_of 3 4 (pos 1)

-- a minute x at which a table is sure that p has brought its kilo, and q has not yet taken one
module _ (k : View) (x : ℕ) (in-day : x ≤ 10080) (brought : sure_by k 1 (Minute x) ≡ true) (not-later : sure_after k 1 (Minute x) ≡ false) (untaken : sure_after k 2 (Minute x) ≡ true) where
  at_x : Looked uses_j (Minute x)
  at_x = Looked.minute x in-day refl

  -- the loan cannot be out: two kilos lie in the bunker
  contrary : not (can_be_active k (Minute x) loan) ≡ true → Refuses one_kilo uses_j k
  contrary e = let inside = not-true (can_be_active k (Minute x) loan) e in Refuses.over (Minute x) at_x (rw (brought, not-later, untaken, inside) (lt_z_yes tt))

  -- it can be out or in: only out leaves room
  only_out : can_be_active k (Minute x) loan ≡ true → can_be_idle k (Minute x) loan ≡ true → RuledOut one_kilo uses_j k (Minute x) loan (pos 0)
  only_out active idle = record { active_open = active; idle_open = idle; no_room = inr (rw (brought, not-later, untaken, active, idle) (lt_z_yes tt)) }

  -- so it began by x
  begins : sure_by k 3 (Minute x) ≡ false → not (can_be_active k (Minute x) loan) ≡ false → Gives one_kilo uses_j k 0 3 (pos x)
  begins unsure e =
      let active = not-false (can_be_active k (Minute x) loan) e in
      Gives.follows (Minute x) at_x loan (inr (inr (inl refl))) (Follows.starts (only_out active (rw unsure refl)) (refl, refl, refl))

  -- and lasts beyond x
  lasts : sure_after k 4 (Minute x) ≡ false → not (can_be_active k (Minute x) loan) ≡ false → Gives one_kilo uses_j k 4 0 (negsuc x)
  lasts unsure e =
      let active = not-false (can_be_active k (Minute x) loan) e in
      let idle = not_from_false (sure_by k 3 (Minute x) && sure_after k 4 (Minute x)) (and_right (sure_by k 3 (Minute x)) (sure_after k 4 (Minute x)) unsure) in
      Gives.follows (Minute x) at_x loan (inr (inr (inl refl))) (Follows.lasts refl (only_out active idle) (refl, refl, refl))

abbrev limits : Meaning
limits = bunker one_kilo (single (numbered_from 1 uses_j))

module _ (k : View) (closed : Closed 1440 5 (numbered_from 1 slips_j) limits k) where
  -- the slips hold p at minute 10, and q at minute 20
  p_by : k.at 0 1 ≤ℤ pos 10
  p_by = slip_ways 1440 5 slips_j limits k closed 0 1 (lit< tt) (lit< tt)

  q_from : k.at 2 0 ≤ℤ minus 20
  q_from = slip_ways 1440 5 slips_j limits k closed 2 0 (lit< tt) (lit< tt)

  p_from : minus 10 ≤ℤ k.at 1 0
  p_from =
      let points = closed.points in
      omega (arith, ints, p_by, closed.sound.triangle 0 1 0 (omega arith) (omega arith) (omega arith), closed.sound.zero 0 (omega arith))

  begins_by_10 : k.at 0 3 ≤ℤ pos 10
  begins_by_10 =
      let brought : sure_by k 1 (Minute 10) ≡ true = grind (arith, ints, p_by) in
      let not-later : sure_after k 1 (Minute 10) ≡ false = grind (arith, ints, p_from) in
      let untaken : sure_after k 2 (Minute 10) ≡ true = grind (arith, ints, q_from) in
      owes 1440 5 (numbered_from 1 slips_j) one_kilo uses_j (lit≤ tt) k closed 0 3 (pos 10) (sure_by k 3 (Minute 10)) (not (can_be_active k (Minute 10) loan)) (lit< tt) (lit< tt)
      (le_from (k.at 0 3) (pos 10))
      (λ _. contrary k 10 (lit≤ tt) brought not-later untaken)
      (begins k 10 (lit≤ tt) brought not-later untaken)

  lasts_beyond_19 : k.at 4 0 ≤ℤ minus 20
  lasts_beyond_19 =
      let brought : sure_by k 1 (Minute 19) ≡ true = grind (arith, ints, p_by) in
      let not-later : sure_after k 1 (Minute 19) ≡ false = grind (arith, ints, p_from) in
      let untaken : sure_after k 2 (Minute 19) ≡ true = grind (arith, ints, q_from) in
      owes 1440 5 (numbered_from 1 slips_j) one_kilo uses_j (lit≤ tt) k closed 4 0 (minus 20) (sure_after k 4 (Minute 19)) (not (can_be_active k (Minute 19) loan)) (lit< tt) (lit< tt)
      (λ e. grind (arith, ints))
      (λ _. contrary k 19 (lit≤ tt) brought not-later untaken)
      (lasts k 19 (lit≤ tt) brought not-later untaken)

abbrev out_from_10_to_20 : List Distance
out_from_10_to_20 = slip 0 3 (pos 10) ∷ slip 4 0 (minus 20) ∷ []

pub j : Tightens bunker day_j shown_j AnyPlan 24 2
unfolding ones
j =
    any_plan bunker labels_j slips_j out_from_10_to_20 one_kilo uses_j (bunker_lawful one_kilo (single (numbered_from 1 uses_j))) rows_j 24 refl refl refl refl
    (each_owed 1440 5 slips_j out_from_10_to_20 limits (begins_by_10, (lasts_beyond_19, tt)))
    (vouched one_kilo uses_j (table rows_j) refl (lit≤ tt))
