-- What each way out of a round shows.
use Rattle.std.proofs.Common.{Ok, Err, Result, MatchResult, is_ok, true, false, ◌≡◌, ℕ, ◌<◌, ◌≤◌, ◌⊎◌, refl, sym, inl, inr, ⊎_elim, subst, arith}
use Rattle.std.proofs.lemmas.Int.{ints, by_lt_z}
use Rattle.std.proofs.lemmas.Bool.{cases_lt, false≢true}
use Rattle.model.specs.Meanings.{Meaning, Lawful, AsTight}
use Rattle.model.specs.Narrowings.{Narrowed}
use Rattle.model.specs.Plans.{View, Tighter}
use Rattle.model.specs.Uses.{Uses}
use Rattle.promise_laws.proofs.Steps.{over_sound, none_sound, over_refused, over_bounded, over_deep_given, still_bounded}
use Rattle.model.proofs.Entries.{sound_low}
use Rattle.tables.proofs.Orders.{tighter_trans}
use Rattle.tables.proofs.Totals.{total_le, total_less}
use Rattle.tables.specs.Closures.{Greatest, NoneUnder}
use Rattle.tables.specs.Totals.{total}
use Rattle.tables.specs.Views.{table_view}
use Rattle.tables.specs.declared.tables.Table.{Table}
use Rattle.tightening.specs.Asked.{RowsBounds, RowsTooLow, RowsRest}
use Rattle.tightening.specs.Rounds.{Keeps, Ends, Rests, Falls}

-- what holds after a step that succeeded, and after one that failed
pub at_ok : {T E : Type 0} (P Q : Type 0) (r : Result T E) → true ≡ is_ok r → MatchResult r (λ _. P) (λ _. Q) → P
at_ok P Q (Ok _) e h = h
at_ok P Q (Err _) e h = absurd (false≢true (sym e))

pub at_err : {T E : Type 0} (P Q : Type 0) (r : Result T E) → false ≡ is_ok r → MatchResult r (λ _. P) (λ _. Q) → Q
at_err P Q (Ok _) e h = absurd (false≢true e)
at_err P Q (Err _) e h = h

pub none_closed_below : (us : Uses) (r : Meaning) (m : View) → NoneUnder m → Ends us r m
none_closed_below us r m none h slips held over = none_sound h m.points slips r m over none

-- x is m closed
module _ (us : Uses) (r : Meaning) (lawful : Lawful us r) (m x : View) (closed : Greatest m x) where
  keeps_closed : Keeps us r m x
  keeps_closed h slips held over = over_sound h m.points slips r m x over closed.most

  pub refused_below : r.refuses x → Ends us r m
  refused_below refused h slips held over = over_refused h m.points slips r us lawful held x closed.sound (keeps_closed h slips held over) refused

  -- the limits lower the bounds of x, copied, to b
  module _ (v b : View) (copied : v ≡ x) (narrowed : Narrowed (r.gives x) v b) where
    given : Narrowed (r.gives x) x b
    given = subst (λ a. Narrowed (r.gives x) a b) copied narrowed

    pub rested : (r.refuses x → ⊥) → RowsRest x b x.points x.points → Rests us r m x
    rested fine rest = record {
      under = closed.under;
      keeps = keeps_closed;
      sound = closed.sound;
      not_refused = fine;
      bounded = λ i j v hi hj. let s = closed.under.same in still_bounded (r.gives x) x b given (λ i j hi hj. rest i hi j hj) i j v (omega arith) (omega arith);
    }

    -- a bound is the entry, or one given
    source : (i j : ℕ) → i < x.points → j < x.points → (b.at i j ≡ x.at i j) ⊎ r.gives x i j (b.at i j)
    source i j hi hj = (given.least i j hi hj).reached

    pub too_low_below : RowsTooLow b x.points → Ends us r m
    too_low_below (i, j, hi, hj, low) h slips held over = ⊎_elim
        (λ e. let l = sound_low x closed.sound i j in absurd (omega (arith, ints)))
        (λ g. let s = closed.under.same in over_deep_given h m.points slips r us lawful held x closed.sound (keeps_closed h slips held over) i j (b.at i j) (omega arith) (omega arith) g (omega (arith, ints)))
        (source i j hi hj)

    -- x is lowered to b
    module _ (y : Table) (met : Narrowed (RowsBounds b x.points x.points) x (table_view y)) where
      lower : Tighter (table_view y) x
      lower = record { same = met.points; below = λ i j hi hj. let s = met.points in (met.least i j (omega arith) (omega arith)).below }

      as_tight : (i j : ℕ) → i < x.points → j < x.points → AsTight r x i j ((table_view y).at i j)
      as_tight i j hi hj = ⊎_elim
          (λ e. inl (omega (arith, ints)))
          (λ w. ⊎_elim (λ e. let f = w.2 in inl (omega (arith, ints))) (λ g. let f = w.2 in inr (b.at i j, g, omega (arith, ints))) (source i j hi hj))
          (met.least i j hi hj).reached

      falls : (RowsRest x b x.points x.points → ⊥) → total (table_view y) < total x
      falls more = ⊎_elim (λ h. h) (λ (h : total x ≤ total (table_view y)). absurd (more (rest h))) (cases_lt (total (table_view y)) (total x))
        where
          rest : total x ≤ total (table_view y) → RowsRest x b x.points x.points
          rest h i hi j hj =
              let under = (met.least i j hi hj).under (b.at i j) (hi, hj, refl) in
              let s = met.points in
              by_lt_z ((table_view y).at i j) (x.at i j)
              (λ l. absurd (omega (arith, total_less x (table_view y) lower i j (omega arith) (omega arith) (let d = y.low i j in omega (arith, ints)) l)))
              (λ l. omega (arith, ints))

      pub fell : (RowsRest x b x.points x.points → ⊥) → Falls us r m (table_view y)
      fell more = record {
        under = tighter_trans lower closed.under;
        keeps = λ h slips held over. let s = closed.under.same in over_bounded h m.points slips r us lawful held x closed.sound (keeps_closed h slips held over) (table_view y) met.points (λ i j hi hj. as_tight i j (omega arith) (omega arith));
        falls = let f = falls more in let t = total_le m x closed.under in omega arith;
      }
