-- Sums over a list of uses: term by term, and with one use taken out.
use Rattle.std.proofs.Common.{◌≡◌, Bool, true, false, ◌⊎◌, List, [], ◌∷◌, ℤ, pos, ◌-ℤ◌, ◌≤ℤ◌, refl, inl, inr, ⊎_elim, arith}
use lib.Signed.{≤ℤ_refl}
use Rattle.std.proofs.lemmas.Int.{ints}
use Rattle.std.proofs.lemmas.Bool.{cases_Bool}
use Rattle.model.specs.Uses.{In}
use Rattle.model.specs.declared.slips.Use.{Use}
use Rattle.bunker_laws.specs.Bunkers.{total}

-- no term larger: no larger sum
pub total_le : (us : List Use) (f g : Use → ℤ) → ((u : Use) → In u us → f u ≤ℤ g u) → total f us ≤ℤ total g us
total_le [] f g h = ≤ℤ_refl (pos 0)
total_le (v ∷ us) f g h =
    let here = h v (inl refl) in
    let rest = total_le us f g (λ u i. h u (inr i)) in
    omega (arith, ints)

-- nor without one of the uses
pub total_out : (us : List Use) (v : Use) (f g : Use → ℤ) → In v us → ((u : Use) → In u us → f u ≤ℤ g u) → (total f us -ℤ f v) ≤ℤ (total g us -ℤ g v)
total_out [] v f g i h = absurd i
total_out (w ∷ us) v f g (inl e) h =
    let rest = total_le us f g (λ u j. h u (inr j)) in
    rw e (omega (arith, ints))
total_out (w ∷ us) v f g (inr i) h =
    let here = h w (inl refl) in
    let rest = total_out us v f g i (λ u j. h u (inr j)) in
    omega (arith, ints)

-- equal terms: equal sums
pub total_same : (us : List Use) (f g : Use → ℤ) → ((u : Use) → In u us → f u ≡ g u) → total f us ≡ total g us
total_same [] f g h = refl
total_same (v ∷ us) f g h =
    let here = h v (inl refl) in
    let rest = total_same us f g (λ u i. h u (inr i)) in
    omega (arith, ints)

-- no terms but 0
pub total_zero : (us : List Use) (f : Use → ℤ) → ((u : Use) → In u us → f u ≡ pos 0) → total f us ≡ pos 0
total_zero [] f h = refl
total_zero (v ∷ us) f h =
    let here = h v (inl refl) in
    let rest = total_zero us f (λ u i. h u (inr i)) in
    omega (arith, ints)

-- one of the uses passes the test, or none does
pub search_uses : (us : List Use) (test : Use → Bool) → ((u : Use) × In u us × (test u ≡ true)) ⊎ ((u : Use) → In u us → test u ≡ false)
search_uses [] test = inr (λ u i. absurd i)
search_uses (v ∷ us) test = ⊎_elim (λ e. inl (v, inl refl, e)) (λ e. ⊎_elim later (λ none. inr (neither e none)) (search_uses us test)) (cases_Bool (test v))
  where
    later : ((u : Use) × In u us × (test u ≡ true)) → ((u : Use) × In u (v ∷ us) × (test u ≡ true)) ⊎ ((u : Use) → In u (v ∷ us) → test u ≡ false)
    later w = inl (w.0, inr w.1, w.2)

    neither : test v ≡ false → ((u : Use) → In u us → test u ≡ false) → (u : Use) → In u (v ∷ us) → test u ≡ false
    neither e none u (inl same) = rw same at e
    neither e none u (inr i) = none u i
