-- The days of one use, a crossing or a loan: every closed table has its start by its end.
use Rattle.std.proofs.Common.{◌≡◌, List, [], ◌∷◌, pos, ◌≤ℤ◌, sym, refl, subst, inl, inr, lit<, lit≤}
use lib.Count.{ones}
use lib.Signed.{le_z_yes}
use Rattle.model.specs.Uses.{In, standing, single}
use Rattle.model.specs.declared.slips.Distance.{Distance}
use Rattle.model.specs.declared.slips.Use.{Use}
use Rattle.model.specs.declared.verdicts.Verdict.TheVariants.{AnyPlan}
use Rattle.bunker_laws.proofs.Lawful.{bunker_lawful}
use Rattle.bunker_laws.specs.Bunkers as bunkers
use Rattle.weighbridge_laws.proofs.Lawful.{weighbridge_lawful}
use Rattle.weighbridge_laws.specs.Weighbridges.{Two, Gives, Vouches}
use Rattle.worked_days.proofs.Answered.{any_plan}
use Rattle.worked_days.proofs.Listed.{vouched}
use Rattle.worked_days.proofs.Numbered.{standing_is}
use Rattle.worked_days.proofs.Tightened.{Owed, each_owed}
use Rattle.worked_days.specs.Days.{bunker, weighbridge, labels_k, one_kilo, uses_k, slips_k, crossing_k, loan_k}
use Rattle.worked_days.specs.Forms.{table, numbered_from, slip, use_of, Tightens}
use Rattle.worked_days.specs.Worked.{rows_k, shown_k}

abbrev start_by_end : List Distance
start_by_end = slip 2 1 (pos 0) ∷ []

-- ---- the crossing

crossing_listed : standing (numbered_from 1 (uses_k (pos 0))) ≡ uses_k (pos 0)
crossing_listed = standing_is (uses_k (pos 0)) (lit≤ tt)

crossing_owed : Owed 1440 3 slips_k start_by_end (weighbridge tt (single (numbered_from 1 (uses_k (pos 0)))))
crossing_owed =
    each_owed 1440 3 slips_k start_by_end (weighbridge tt (single (numbered_from 1 (uses_k (pos 0)))))
    ((λ k closed. closed.bounded 2 1 (pos 0) (lit< tt) (lit< tt) (subst (λ us. Gives us k 2 1 (pos 0)) (sym crossing_listed) (Gives.order (use_of 1 2 (pos 0)) (inl refl) refl refl refl))), tt)

in_order : (u : Use) → In u (uses_k (pos 0)) → (table rows_k).at u.last u.first ≤ℤ pos 0
in_order u (inl e) = subst (λ (x : Use). (table rows_k).at x.last x.first ≤ℤ pos 0) e (le_z_yes tt)
in_order u (inr h) = absurd h

no_two : (x y : Use) → Two x y (uses_k (pos 0)) → ⊥
no_two x y (inl (inl (e, h))) = h
no_two x y (inl (inr h)) = h
no_two x y (inr (inl (e, h))) = h
no_two x y (inr (inr h)) = h

crossing_vouched : Vouches (standing (numbered_from 1 (uses_k (pos 0)))) (table rows_k)
crossing_vouched = subst (λ us. Vouches us (table rows_k)) (sym crossing_listed) (record { order = in_order; apart = λ x y two. absurd (no_two x y two) })

pub k_crossing_holds : Tightens weighbridge crossing_k shown_k AnyPlan 6 2
unfolding ones
k_crossing_holds = any_plan weighbridge labels_k slips_k start_by_end tt (uses_k (pos 0)) (weighbridge_lawful (single (numbered_from 1 (uses_k (pos 0))))) rows_k 6 refl refl refl refl crossing_owed crossing_vouched

-- ---- the loan

loan_owed : Owed 1440 3 slips_k start_by_end (bunker one_kilo (single (numbered_from 1 (uses_k (pos 1)))))
loan_owed =
    each_owed 1440 3 slips_k start_by_end (bunker one_kilo (single (numbered_from 1 (uses_k (pos 1)))))
    ((λ k closed. closed.bounded 2 1 (pos 0) (lit< tt) (lit< tt) (subst (λ us. bunkers.Gives one_kilo us k 2 1 (pos 0)) (sym (standing_is (uses_k (pos 1)) (lit≤ tt))) (bunkers.Gives.order (use_of 1 2 (pos 1)) (inl refl) refl refl refl refl))), tt)

pub k_loan_holds : Tightens bunker loan_k shown_k AnyPlan 6 2
unfolding ones
k_loan_holds = any_plan bunker labels_k slips_k start_by_end one_kilo (uses_k (pos 1)) (bunker_lawful one_kilo (single (numbered_from 1 (uses_k (pos 1))))) rows_k 6 refl refl refl refl loan_owed (vouched one_kilo (uses_k (pos 1)) (table rows_k) refl (lit≤ tt))
