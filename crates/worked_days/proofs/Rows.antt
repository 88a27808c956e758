-- A table given by its rows: one computed test shows that it is sound and fits a day, and that no entry is below what the slips and
-- further bounds owe.
use Rattle.std.proofs.Common.{◌≡◌, ℕ, ◌<◌, ◌≤◌, Bool, true, ◌&&◌, eqb, ltb, ◌⊎◌, List, [], ◌∷◌, ◌++◌, length, get_or, ℤ, pos, ◌+ℤ◌, ◌≤ℤ◌, ap, inl, inr, ⊎_elim, arith}
use lib.Signed.{le_z}
use Rattle.std.proofs.lemmas.List.{get_or_past}
use Rattle.std.proofs.lemmas.Int.{ints}
use Rattle.std.proofs.lemmas.Bool.{and_parts, cases_lt, eqb-true, ltb-true}
use Rattle.std.specs.List.{AllByRecursion as All}
use Rattle.model.proofs.Members.{in_place}
use Rattle.model.specs.Plans.{View, Sound}
use Rattle.model.specs.declared.slips.Distance.{Distance}
use Rattle.worked_days.proofs.Shortest.{shortest, Keeps}
use Rattle.worked_days.proofs.Tests.{le_from, all_below, below, all_in, each}
use Rattle.worked_days.specs.Forms.{table}

-- ---- the test

abbrev square : List (List ℤ) → Bool
square rows = all_in (λ row. eqb (length row) (length rows)) rows

abbrev zeros : ℕ → View → Bool
zeros n m = all_below n (λ i. le_z (m.at i i) (pos 0) && le_z (pos 0) (m.at i i))

abbrev early : ℕ → View → Bool
early n m = all_below n (λ i. le_z (m.at i 0) (pos 0))

abbrev under : ℕ → (ℕ → ℕ → ℤ) → (ℕ → ℕ → ℤ) → Bool
under n a b = all_below n (λ i. all_below n (λ j. le_z (a i j) (b i j)))

abbrev triangles : ℕ → View → Bool
triangles n m = all_below n (λ i. all_below n (λ j. all_below n (λ k. le_z (m.at i k) (m.at i j +ℤ m.at j k))))

abbrev kept : View → List Distance → Bool
kept m ss = all_in (λ s. le_z (m.at s.from s.to) s.minutes) ss

-- The rows are a sound table that fits a day of h minutes with these slips, and no entry is below the shortest way over the slips and
-- the further bounds.
abbrev tests : (h : ℕ) (ss further : List Distance) (rows : List (List ℤ)) → List Bool
tests h ss further rows =
    ltb 0 (length rows)
    ∷ square rows
    ∷ zeros (length rows) (table rows)
    ∷ early (length rows) (table rows)
    ∷ under (length rows) (table rows).at (λ i j. pos h)
    ∷ triangles (length rows) (table rows)
    ∷ kept (table rows) ss
    ∷ under (length rows) (shortest h (length rows) (ss ++ further)) (table rows).at
    ∷ []

abbrev pub fits : (h : ℕ) (ss further : List Distance) (rows : List (List ℤ)) → Bool
fits h ss further rows = all_in (λ b. b) (tests h ss further rows)

all_true : (bs : List Bool) → all_in (λ b. b) bs ≡ true → All (λ b. b ≡ true) bs
all_true [] e = tt
all_true (b ∷ bs) e = let parts = and_parts b (all_in (λ b. b) bs) e in (parts.0, all_true bs parts.1)

module _ (h : ℕ) (ss further : List Distance) (rows : List (List ℤ)) (hours : h ≤ 10080) (passed : fits h ss further rows ≡ true) where
  passes : All (λ b. b ≡ true) (tests h ss further rows)
  passes = all_true (tests h ss further rows) passed

  some : 0 < length rows
  some = ltb-true 0 (length rows) passes.0

  below_two : (a b : ℕ → ℕ → ℤ) → under (length rows) a b ≡ true → (i j : ℕ) → i < length rows → j < length rows → a i j ≤ℤ b i j
  below_two a b e i j hi hj = le_from (a i j) (b i j) (below (length rows) (λ j. le_z (a i j) (b i j)) (below (length rows) (λ i. all_below (length rows) (λ j. le_z (a i j) (b i j))) e i hi) j hj)

  pub short : (i j : ℕ) → i < length rows → j < length rows → (table rows).at i j ≤ℤ pos h
  short = below_two (table rows).at (λ i j. pos h) passes.1.1.1.1.0

  pub opening : (i : ℕ) → i < length rows → (table rows).at i 0 ≤ℤ pos 0
  opening i hi = le_from ((table rows).at i 0) (pos 0) (below (length rows) (λ i. le_z ((table rows).at i 0) (pos 0)) passes.1.1.1.0 i hi)

  outside : (i j : ℕ) → (length rows ≤ i) ⊎ (length rows ≤ j) → (table rows).at i j ≡ pos 10080
  outside i j o = ⊎_elim (λ hi. ⊎_elim (λ a. absurd (omega arith)) (λ b. row_end hi b) o) (λ a. ap (λ row. get_or row j (pos 10080)) (get_or_past rows i [] a)) (cases_lt i (length rows))
    where
      row_end : i < length rows → length rows ≤ j → (table rows).at i j ≡ pos 10080
      row_end hi b =
          let long = eqb-true (length (get_or rows i [])) (length rows) (each (λ row. eqb (length row) (length rows)) rows passes.1.0 (get_or rows i []) (in_place rows i [] hi)) in
          get_or_past (get_or rows i []) j (pos 10080) (omega arith)

  pub sound : Sound (table rows)
  sound = record { some = some; within = within; outside = outside; zero = zero_entry; triangle = triangle }
    where
      within : (i j : ℕ) → (table rows).at i j ≤ℤ pos 10080
      within i j =
          ⊎_elim
          (λ hi. ⊎_elim (λ hj. omega (arith, ints, short i j hi hj)) (λ b. omega (arith, ints, outside i j (inr b))) (cases_lt j (length rows)))
          (λ a. omega (arith, ints, outside i j (inl a)))
          (cases_lt i (length rows))

      zero_entry : (i : ℕ) → i < length rows → (table rows).at i i ≡ pos 0
      zero_entry i hi =
          let both = and_parts (le_z ((table rows).at i i) (pos 0)) (le_z (pos 0) ((table rows).at i i)) (below (length rows) (λ i. le_z ((table rows).at i i) (pos 0) && le_z (pos 0) ((table rows).at i i)) passes.1.1.0 i hi) in
          omega (arith, ints, le_from ((table rows).at i i) (pos 0) both.0, le_from (pos 0) ((table rows).at i i) both.1)

      triangle : (i j k : ℕ) → i < length rows → j < length rows → k < length rows → (table rows).at i k ≤ℤ ((table rows).at i j +ℤ (table rows).at j k)
      triangle i j k hi hj hk =
          let one : ℕ → ℕ → ℕ → Bool = λ i j k. le_z ((table rows).at i k) ((table rows).at i j +ℤ (table rows).at j k) in
          le_from ((table rows).at i k) ((table rows).at i j +ℤ (table rows).at j k)
          (below (length rows) (one i j)
          (below (length rows) (λ j. all_below (length rows) (one i j))
          (below (length rows) (λ i. all_below (length rows) (λ j. all_below (length rows) (one i j))) passes.1.1.1.1.1.0 i hi) j hj) k hk)

  pub keeps : Keeps (table rows) ss
  keeps s i = le_from ((table rows).at s.from s.to) s.minutes (each (λ s. le_z ((table rows).at s.from s.to) s.minutes) ss passes.1.1.1.1.1.1.0 s i)

  pub no_lower : (i j : ℕ) → i < length rows → j < length rows → shortest h (length rows) (ss ++ further) i j ≤ℤ (table rows).at i j
  no_lower = below_two (shortest h (length rows) (ss ++ further)) (table rows).at passes.1.1.1.1.1.1.1.0
