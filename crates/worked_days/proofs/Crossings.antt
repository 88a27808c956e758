-- The day of two crossings: every closed table has the end of the first crossing by the start of the second.
use Rattle.std.proofs.Common.{◌≡◌, ◌⊎◌, List, [], ◌∷◌, pos, ◌≤ℤ◌, sym, refl, subst, inl, inr, arith, lit<, lit≤}
use lib.Count.{ones}
use lib.Signed.{le_z_yes}
use Rattle.std.proofs.lemmas.Int.{ints}
use Rattle.model.specs.Meanings.{Meaning}
use Rattle.model.specs.Uses.{In, standing, single}
use Rattle.model.specs.declared.slips.Distance.{Distance}
use Rattle.model.specs.declared.slips.Use.{Use}
use Rattle.model.specs.declared.verdicts.Verdict.TheVariants.{AnyPlan}
use Rattle.weighbridge_laws.proofs.Lawful.{weighbridge_lawful}
use Rattle.weighbridge_laws.specs.Weighbridges.{Two, Gives, Vouches}
use Rattle.worked_days.proofs.Answered.{any_plan}
use Rattle.worked_days.proofs.Numbered.{standing_is}
use Rattle.worked_days.proofs.Tightened.{Owed, each_owed, slip_ways}
use Rattle.worked_days.specs.Days.{weighbridge, labels_h, uses_h, slips_h, day_h}
use Rattle.worked_days.specs.Forms.{table, numbered_from, slip, use_of, Tightens}
use Rattle.worked_days.specs.Worked.{rows_h, shown_h}

abbrev limits : Meaning
limits = weighbridge tt (single (numbered_from 1 uses_h))

listed : standing (numbered_from 1 uses_h) ≡ uses_h
listed = standing_is uses_h (lit≤ tt)

abbrev over_by_b : List Distance
over_by_b = slip 2 1 (pos 0) ∷ []

-- the second crossing ends after opening, where the first begins, so the first is over by b
owed : Owed 1440 4 slips_h over_by_b limits
owed =
    each_owed 1440 4 slips_h over_by_b limits (
      (λ k closed.
          let late = slip_ways 1440 4 slips_h limits k closed 3 0 (lit< tt) (lit< tt) in
          let given : Gives uses_h k 2 1 (pos 0) = Gives.turn (use_of 2 3 (pos 0)) (use_of 0 1 (pos 0)) (inr (inl (refl, inl refl))) (omega (arith, ints)) refl refl refl in
          closed.bounded 2 1 (pos 0) (lit< tt) (lit< tt) (subst (λ us. Gives us k 2 1 (pos 0)) (sym listed) given)),
      tt,
    )

-- ---- vouching

in_order : (u : Use) → In u uses_h → (table rows_h).at u.last u.first ≤ℤ pos 0
in_order u (inl e) = subst (λ (x : Use). (table rows_h).at x.last x.first ≤ℤ pos 0) e (le_z_yes tt)
in_order u (inr (inl e)) = subst (λ (x : Use). (table rows_h).at x.last x.first ≤ℤ pos 0) e (le_z_yes tt)
in_order u (inr (inr h)) = absurd h

-- one of the two ends by the start of the other
abbrev Apart : Use → Use → Type 0
Apart x y = ((table rows_h).at y.first x.last ≤ℤ pos 0) ⊎ ((table rows_h).at x.first y.last ≤ℤ pos 0)

apart : (x y : Use) → Two x y uses_h → Apart x y
apart x y (inl (inl (e, inl h))) = subst (λ z. Apart z y) e (subst (λ z. Apart (use_of 0 1 (pos 0)) z) h (inl (le_z_yes tt)))
apart x y (inl (inl (e, inr h))) = absurd h
apart x y (inl (inr (inl (e, h)))) = absurd h
apart x y (inl (inr (inr h))) = absurd h
apart x y (inr (inl (e, inl h))) = subst (λ z. Apart x z) e (subst (λ z. Apart z (use_of 0 1 (pos 0))) h (inr (le_z_yes tt)))
apart x y (inr (inl (e, inr h))) = absurd h
apart x y (inr (inr (inl (e, h)))) = absurd h
apart x y (inr (inr (inr h))) = absurd h

vouched : Vouches (standing (numbered_from 1 uses_h)) (table rows_h)
vouched = subst (λ us. Vouches us (table rows_h)) (sym listed) (record { order = in_order; apart = apart })

pub h : Tightens weighbridge day_h shown_h AnyPlan 12 2
unfolding ones
h = any_plan weighbridge labels_h slips_h over_by_b tt uses_h (weighbridge_lawful (single (numbered_from 1 uses_h))) rows_h 12 refl refl refl refl owed vouched
