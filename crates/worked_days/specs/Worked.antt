-- What each worked day tightens to.
use Rattle.std.specs.Prelude.{◌≡◌, ◌+◌, true, false, List, [], ◌∷◌, ℤ, pos, Some, Ok}
use Rattle.model.specs.Plans.{Plan, Meets}
use Rattle.model.specs.declared.moments.Moment.TheVariants.{Point, Minute}
use Rattle.model.specs.declared.verdicts.Verdict.TheVariants.{NoPlan, Open, AnyPlan}
use Rattle.runs.specs.Days.{points}
use Rattle.runs.specs.Shown.{Shown, look_bound}
use Rattle.worked_days.specs.Days.{bunker, levels_at, weighbridge, day_a, day_b, day_c, day_d, day_e, day_f, day_g, day_h, day_i, day_j, crossing_k, loan_k, day_l}
use Rattle.worked_days.specs.Forms.{minus, table, Tightens, Between}

-- ---- what is shown: the table by its rows, and whether the limits vouch for it

abbrev pub rows_a : List (List ℤ)
rows_a = (pos 0 ∷ []) ∷ []

abbrev pub shown_a : Shown
shown_a = Shown.bounds (table rows_a) true

abbrev pub rows_b : List (List ℤ)
rows_b =
    (pos 0 ∷ pos 1439 ∷ pos 1440 ∷ [])
    ∷ (pos 0 ∷ pos 0 ∷ pos 1 ∷ [])
    ∷ (minus 1 ∷ minus 1 ∷ pos 0 ∷ [])
    ∷ []

abbrev pub shown_b : Shown
shown_b = Shown.bounds (table rows_b) true

abbrev pub rows_c : List (List ℤ)
rows_c =
    (pos 0 ∷ pos 50 ∷ pos 60 ∷ [])
    ∷ (pos 0 ∷ pos 0 ∷ pos 60 ∷ [])
    ∷ (minus 20 ∷ pos 0 ∷ pos 0 ∷ [])
    ∷ []

abbrev pub shown_c : Shown
shown_c = Shown.bounds (table rows_c) true

abbrev pub rows_d : List (List ℤ)
rows_d =
    (pos 0 ∷ pos 20 ∷ pos 20 ∷ [])
    ∷ (minus 20 ∷ pos 0 ∷ pos 0 ∷ [])
    ∷ (minus 20 ∷ pos 0 ∷ pos 0 ∷ [])
    ∷ []

abbrev pub shown_d : Shown
shown_d = Shown.bounds (table rows_d) true

abbrev pub rows_f : List (List ℤ)
rows_f =
    (pos 0 ∷ pos 10 ∷ pos 30 ∷ pos 40 ∷ [])
    ∷ (minus 10 ∷ pos 0 ∷ pos 20 ∷ pos 30 ∷ [])
    ∷ (minus 10 ∷ pos 0 ∷ pos 0 ∷ pos 10 ∷ [])
    ∷ (minus 20 ∷ minus 10 ∷ minus 10 ∷ pos 0 ∷ [])
    ∷ []

abbrev pub shown_f : Shown
shown_f = Shown.bounds (table rows_f) true

abbrev pub rows_g : List (List ℤ)
rows_g =
    (pos 0 ∷ pos 1440 ∷ pos 1440 ∷ [])
    ∷ (pos 0 ∷ pos 0 ∷ pos 1440 ∷ [])
    ∷ (pos 0 ∷ pos 1440 ∷ pos 0 ∷ [])
    ∷ []

abbrev pub shown_g : Shown
shown_g = Shown.bounds (table rows_g) false

abbrev pub rows_h : List (List ℤ)
rows_h =
    (pos 0 ∷ pos 10 ∷ pos 30 ∷ pos 35 ∷ [])
    ∷ (minus 10 ∷ pos 0 ∷ pos 20 ∷ pos 25 ∷ [])
    ∷ (minus 10 ∷ pos 0 ∷ pos 0 ∷ pos 5 ∷ [])
    ∷ (minus 15 ∷ minus 5 ∷ minus 5 ∷ pos 0 ∷ [])
    ∷ []

abbrev pub shown_h : Shown
shown_h = Shown.bounds (table rows_h) true

abbrev pub rows_i : List (List ℤ)
rows_i =
    (pos 0 ∷ pos 20 ∷ pos 30 ∷ pos 60 ∷ [])
    ∷ (minus 20 ∷ pos 0 ∷ pos 10 ∷ pos 40 ∷ [])
    ∷ (minus 30 ∷ minus 10 ∷ pos 0 ∷ pos 30 ∷ [])
    ∷ (minus 20 ∷ pos 0 ∷ pos 10 ∷ pos 0 ∷ [])
    ∷ []

abbrev pub shown_i : Shown
shown_i = Shown.bounds (table rows_i) true

abbrev pub rows_j : List (List ℤ)
rows_j =
    (pos 0 ∷ pos 10 ∷ pos 20 ∷ pos 10 ∷ pos 30 ∷ [])
    ∷ (minus 10 ∷ pos 0 ∷ pos 10 ∷ pos 0 ∷ pos 20 ∷ [])
    ∷ (minus 20 ∷ minus 10 ∷ pos 0 ∷ minus 10 ∷ pos 10 ∷ [])
    ∷ (pos 0 ∷ pos 10 ∷ pos 20 ∷ pos 0 ∷ pos 30 ∷ [])
    ∷ (minus 20 ∷ minus 10 ∷ pos 0 ∷ minus 10 ∷ pos 0 ∷ [])
    ∷ []

abbrev pub shown_j : Shown
shown_j = Shown.bounds (table rows_j) true

abbrev pub rows_k : List (List ℤ)
rows_k =
    (pos 0 ∷ pos 30 ∷ pos 1440 ∷ [])
    ∷ (minus 5 ∷ pos 0 ∷ pos 1435 ∷ [])
    ∷ (minus 5 ∷ pos 0 ∷ pos 0 ∷ [])
    ∷ []

abbrev pub shown_k : Shown
shown_k = Shown.bounds (table rows_k) true

abbrev pub rows_l : List (List ℤ)
rows_l =
    (pos 0 ∷ pos 10 ∷ pos 10 ∷ pos 20 ∷ [])
    ∷ (minus 5 ∷ pos 0 ∷ pos 5 ∷ pos 15 ∷ [])
    ∷ (minus 10 ∷ pos 0 ∷ pos 0 ∷ pos 10 ∷ [])
    ∷ (minus 20 ∷ minus 10 ∷ minus 10 ∷ pos 0 ∷ [])
    ∷ []

abbrev pub shown_l : Shown
shown_l = Shown.bounds (table rows_l) true

-- ---- the theorem

pub record WorkedDays : Type 0 where
  pub a : Tightens weighbridge day_a shown_a AnyPlan 0 0
  -- point 2 comes one minute after point 1; or, where it may not come later, no plan is left
  pub b : Tightens weighbridge (day_b (pos 1)) shown_b AnyPlan 6 2
  pub b_next : (t : Plan) → Meets t (table rows_b) → t 2 ≡ t 1 + 1
  pub b_none : Tightens weighbridge (day_b (pos 0)) Shown.no_plan NoPlan 0 0
  -- p comes by r; r may take what p brought from minute 20 on
  pub c : Tightens bunker day_c shown_c AnyPlan 6 2
  pub c_order : look_bound (points day_c) shown_c 2 1 ≡ Ok (pos 0)
  pub c_before : levels_at day_c shown_c (Minute 19) ≡ Ok (Some (pos 400, pos 0))
  pub c_first : levels_at day_c shown_c (Minute 20) ≡ Ok (Some (pos 400, minus 400))
  -- both come at minute 20, and count from that minute on
  pub d : Tightens bunker day_d shown_d AnyPlan 0 0
  pub d_brought : Between day_d shown_d 1 20 20
  pub d_taken : Between day_d shown_d 2 20 20
  pub d_levels : levels_at day_d shown_d (Minute 20) ≡ Ok (Some (pos 0, pos 0))
  pub e : Tightens bunker day_e Shown.no_plan NoPlan 0 0
  -- a comes once the first loan is over
  pub f : Tightens bunker day_f shown_f AnyPlan 12 2
  pub f_after : Between day_f shown_f 2 10 30
  -- each delivery at p counts by itself: at the highest 900 + 300 - 1 at r, and at the lowest 900 - 300 - 1
  pub g : Tightens bunker day_g shown_g Open 6 2
  pub g_levels : levels_at day_g shown_g (Point 2) ≡ Ok (Some (pos 1199, pos 599))
  -- b comes once the first crossing is over
  pub h : Tightens weighbridge day_h shown_h AnyPlan 12 2
  pub h_after : Between day_h shown_h 2 10 30
  -- r waits for the first delivery
  pub i : Tightens bunker day_i shown_i AnyPlan 8 1
  pub i_waits : Between day_i shown_i 3 20 60
  -- the loan is out from minute 10 to minute 20
  pub j : Tightens bunker day_j shown_j AnyPlan 24 2
  pub j_starts : Between day_j shown_j 3 0 10
  pub j_lasts : Between day_j shown_j 4 20 30
  -- a use ends no earlier than it begins
  pub k_crossing : Tightens weighbridge crossing_k shown_k AnyPlan 6 2
  pub k_loan : Tightens bunker loan_k shown_k AnyPlan 6 2
  pub k_end : Between loan_k shown_k 2 5 1440
  -- the first loan is over by the time that the second begins
  pub l : Tightens bunker day_l shown_l AnyPlan 2 1
  pub l_ends : Between day_l shown_l 1 5 10
