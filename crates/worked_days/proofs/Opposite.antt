-- The day of two opposite deliveries at one point: every plan is allowed, and the bunker does not vouch for the table.
use Rattle.std.proofs.Common.{◌≡◌, ◌≤◌, Bool, true, false, cond, [], ℤ, pos, ◌+ℤ◌, ◌≤ℤ◌, Some, Ok, sym, refl, subst, inl, inr, arith, lit≤}
use lib.Count.{ones}
use lib.Signed.{le_z_yes}
use Rattle.model.specs.Plans.{Plan}
use Rattle.model.specs.Uses.{In, standing, single}
use Rattle.model.specs.declared.moments.Moment.TheVariants.{Point}
use Rattle.model.specs.declared.slips.Use.{Use}
use Rattle.model.specs.declared.verdicts.Verdict.TheVariants.{Open}
use Rattle.bunker_laws.proofs.Lawful.{bunker_lawful}
use Rattle.bunker_laws.specs.Bunkers.{active, Allows, Vouches}
use Rattle.worked_days.proofs.Answered.{open_plans}
use Rattle.worked_days.proofs.Listed.{levels_listed}
use Rattle.worked_days.proofs.Numbered.{standing_is}
use Rattle.worked_days.proofs.Tightened.{each_owed}
use Rattle.worked_days.specs.Days.{bunker, levels_at, labels_c, almost_full, uses_g, day_g}
use Rattle.worked_days.specs.Forms.{minus, table, numbered_from, use_of, Tightens}
use Rattle.worked_days.specs.Worked.{rows_g, shown_g}

-- what the three deliveries come to, as p and r have come or not
abbrev level : Bool → Bool → ℤ
level p r = pos 900 +ℤ (cond p (pos 300) (pos 0) +ℤ (cond p (minus 300) (pos 0) +ℤ (cond r (minus 1) (pos 0) +ℤ pos 0)))

level_room : (p r : Bool) → (pos 0 ≤ℤ level p r) × (level p r ≤ℤ pos 1000)
level_room true true = (le_z_yes tt, le_z_yes tt)
level_room true false = (le_z_yes tt, le_z_yes tt)
level_room false true = (le_z_yes tt, le_z_yes tt)
level_room false false = (le_z_yes tt, le_z_yes tt)

in_order : (t : Plan) (u : Use) → In u uses_g → t u.first ≤ t u.last
in_order t u (inl e) = subst (λ (x : Use). t x.first ≤ t x.last) e (omega arith)
in_order t u (inr (inl e)) = subst (λ (x : Use). t x.first ≤ t x.last) e (omega arith)
in_order t u (inr (inr (inl e))) = subst (λ (x : Use). t x.first ≤ t x.last) e (omega arith)
in_order t u (inr (inr (inr h))) = absurd h

listed : standing (numbered_from 1 uses_g) ≡ uses_g
listed = standing_is uses_g (lit≤ tt)

allowed : (t : Plan) → Allows almost_full (standing (numbered_from 1 uses_g)) t
allowed t =
    subst (λ us. Allows almost_full us t) (sym listed)
    (record { room = λ k _. level_room (active t k (use_of 1 1 (pos 300))) (active t k (use_of 2 2 (minus 1))); order = in_order t })

unvouched : Vouches almost_full (standing (numbered_from 1 uses_g)) (table rows_g) → ⊥
unvouched v = ((subst (λ us. Vouches almost_full us (table rows_g)) listed v).room (use_of 2 2 (minus 1)) 2 (inr (inr (inl refl))) (inl refl)).1.le

pub g : Tightens bunker day_g shown_g Open 6 2
unfolding ones
g = open_plans bunker labels_c [] [] almost_full uses_g (bunker_lawful almost_full (single (numbered_from 1 uses_g))) rows_g 6 refl refl refl refl (each_owed 1440 3 [] [] (bunker almost_full (single (numbered_from 1 uses_g))) tt) (λ t _ _. allowed t) unvouched

pub g_levels_hold : levels_at day_g shown_g (Point 2) ≡ Ok (Some (pos 1199, pos 599))
g_levels_hold = levels_listed almost_full uses_g (table rows_g) (Point 2) (lit≤ tt)
