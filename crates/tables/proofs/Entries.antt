-- The entries of a view of bounds.
use Rattle.std.proofs.Common.{◌≡◌, ℕ, true, ◌<◌, ◌≤◌, ◌&&◌, ltb, ◌⊎◌, List, length, get_or, set, pos, negsuc, ◌≤ℤ◌, inl, inr, arith}
use Rattle.std.proofs.lemmas.Int.{ints}
use Rattle.std.proofs.lemmas.List.{get_or-set_same, get_or-set_other, set_past}
use Rattle.std.proofs.lemmas.Bool.{cond_both, cases_lt, cases_eq, and_parts, ltb-true}
use Rattle.std.proofs.lemmas.Bool.Decides.{nat_tests}
use Rattle.tables.specs.Rows.{bound_in}
use Rattle.tables.specs.Views.{bounds_view}
use Rattle.tables.specs.declared.bounds.Bounds.{Bounds}

-- a pair is within n points, or it is not
pub pair_cases : (n i j : ℕ) → ((i < n) × (j < n)) ⊎ ((n ≤ i) ⊎ (n ≤ j))
pair_cases n i j =
    elim (cases_lt i n) [
      | inl hi ↦ elim (cases_lt j n) [ inl hj ↦ inl (hi, hj) | inr h ↦ inr (inr h) ]
      | inr h ↦ inr (inl h)
    ]

-- a pair that is there
pub at_inside : (b : Bounds) (i j : ℕ) → i < b.points → j < b.points → (bounds_view b).at i j ≡ bound_in b.entries i j
unfolding bounds_view
at_inside b i j hi hj = grind (arith, nat_tests)

-- a pair that is not
pub at_outside : (b : Bounds) (i j : ℕ) → ((bounds_view b).points ≤ i) ⊎ ((bounds_view b).points ≤ j) → (bounds_view b).at i j ≡ pos 10080
unfolding bounds_view
at_outside b i j (inl h) = grind (arith, nat_tests)
at_outside b i j (inr h) = grind (arith, nat_tests)

pub points_few : (b : Bounds) → (bounds_view b).points ≤ 64
unfolding bounds_view
points_few b = b.few

within_inside : (b : Bounds) (i j : ℕ) → (ltb i b.points && ltb j b.points) ≡ true → (negsuc 10080 ≤ℤ bound_in b.entries i j) × (bound_in b.entries i j ≤ℤ pos 10080)
within_inside b i j e = let few = b.few in let inside = ltb-true i b.points (and_parts _ _ e).0 in (b.within i (omega arith)).1 j

-- no bound is below -10,081, or above 10,080
pub at_low : (b : Bounds) (i j : ℕ) → negsuc 10080 ≤ℤ (bounds_view b).at i j
unfolding bounds_view
at_low b i j =
    cond_both (ltb i b.points && ltb j b.points) _ _ (λ x. negsuc 10080 ≤ℤ x) (λ e. (within_inside b i j e).0) (λ _. omega (arith, ints))

pub at_high : (b : Bounds) (i j : ℕ) → (bounds_view b).at i j ≤ℤ pos 10080
unfolding bounds_view
at_high b i j =
    cond_both (ltb i b.points && ltb j b.points) _ _ (λ x. x ≤ℤ pos 10080) (λ e. (within_inside b i j e).1) (λ _. omega (arith, ints))

-- what holds of a new element and of each before holds of each after
pub set_by : {X : Type 0} (n : ℕ) (xs : List X) (place : ℕ) (v d : X) (P : X → Type 0) → P v → ((k : ℕ) → k < n → P (get_or xs k d)) → (k : ℕ) → k < n → P (get_or (set xs place v) k d)
set_by n xs place v d P here there k hk =
    elim (cases_eq k place) [
      | inl e ↦ elim (cases_lt place (length xs)) [
        | inl h ↦ rw (e, get_or-set_same xs place v d h) here
        | inr h ↦ rw (set_past xs place v h) (there k hk)
      ]
      | inr n ↦ rw (get_or-set_other xs place k v d n) (there k hk)
    ]
