-- The views of bounds that were made or written.
use Rattle.std.proofs.Common.{◌≡◌, ℕ, ◌+◌, ◌<◌, List, [], length, get_or, set, replicate, ℤ, pos, negsuc, ◌≤ℤ◌, ◌≤◌, refl, ap, ◌∙◌, inl, inr, arith}
use Rattle.std.specs.Int.{int_min}
use Rattle.std.proofs.lemmas.List.{length-set, get_or-replicate, length-replicate, get_or_past, get_or-set_same, get_or-set_other}
use Rattle.std.proofs.lemmas.Int.{ints}
use Rattle.std.proofs.lemmas.Bool.{cases_eq, cases_lt}
use Rattle.std.proofs.lemmas.Bool.Decides.{nat_tests}
use Rattle.tables.specs.Rows.{bound_in, Within, RowsWithin}
use Rattle.tables.specs.Views.{bounds_view, even_view, lowered}
use Rattle.tables.specs.declared.bounds.Bounds.{Bounds}
use Rattle.tables.proofs.Orders.{same_view}
use Rattle.tables.proofs.Entries.{set_by}

-- rows of one value
pub even_within : (v : ℤ) → negsuc 10080 ≤ℤ v → v ≤ℤ pos 10080 → RowsWithin 64 (replicate 64 (replicate 64 v))
even_within v low high i hi =
    rw (get_or-replicate 64 i (replicate 64 v) [] hi) (
      length-replicate 64 v,
      λ j.
          elim (cases_lt j 64) [
            | inl h ↦ rw (get_or-replicate 64 j v (pos 0) h) (low, high)
            | inr h ↦
                let past : length (replicate 64 v) ≤ j = omega (arith, length-replicate 64 v) in
                rw (get_or_past (replicate 64 v) j (pos 0) past) (omega (arith, ints), omega (arith, ints))
          ],
    )

pub even_view_holds : (b : Bounds) (v : ℤ) → ((i j : ℕ) → i < 64 → j < 64 → bound_in b.entries i j ≡ v) → bounds_view b ≡ even_view b.points v
unfolding bounds_view
even_view_holds b v h = same_view (bounds_view b) (even_view b.points v) refl (λ i j. let few = b.few in grind (arith, nat_tests, h i j))

-- rows of which the bound w is written in row i at j
module _ (rows : List (List ℤ)) (i j : ℕ) (w : ℤ) where
  written_here : i < length rows → j < length (get_or rows i []) → bound_in (set rows i (set (get_or rows i []) j w)) i j ≡ w
  written_here hi hj = rw (get_or-set_same rows i (set (get_or rows i []) j w) [] hi) (get_or-set_same (get_or rows i []) j w (pos 0) hj)

  written_elsewhere : i < length rows → (p q : ℕ) → ((p ≡ i) × (q ≡ j) → ⊥) → bound_in (set rows i (set (get_or rows i []) j w)) p q ≡ bound_in rows p q
  written_elsewhere hi p q n =
      elim (cases_eq p i) [
        | inl ep ↦ rw (ep, get_or-set_same rows i (set (get_or rows i []) j w) [] hi) (get_or-set_other (get_or rows i []) j q w (pos 0) (λ eq. n (ep, eq)))
        | inr np ↦ ap (λ (row : List ℤ). get_or row q (pos 0)) (get_or-set_other rows i p (set (get_or rows i []) j w) [] np)
      ]

  pub written_within : RowsWithin 64 rows → i < 64 → negsuc 10080 ≤ℤ w → w ≤ℤ pos 10080 → RowsWithin 64 (set rows i (set (get_or rows i []) j w))
  written_within within hi low high =
      let row = within i hi in
      set_by 64 rows i (set (get_or rows i []) j w) [] (λ (xs : List ℤ). (length xs ≡ 64) × Within xs)
      (length-set (get_or rows i []) j w ∙ row.0, λ q. set_by (q + 1) (get_or rows i []) j w (pos 0) (λ x. (negsuc 10080 ≤ℤ x) × (x ≤ℤ pos 10080)) (low, high) (λ k h. row.1 k) q (omega arith))
      within

-- one bound written
pub written : (b x : Bounds) (i j : ℕ) (v w : ℤ) → x.points ≡ b.points → x.entries ≡ set b.entries i (set (get_or b.entries i []) j w) → length b.entries ≡ 64
    → i < (bounds_view b).points → j < (bounds_view b).points → w ≡ int_min ((bounds_view b).at i j) v → bounds_view x ≡ lowered (bounds_view b) i j v
unfolding bounds_view
written b x i j v w ps es long hi hj least =
    let few = b.few in
    let wide = (b.within i (omega arith)).0 in
    let here : bound_in x.entries i j ≡ w = ap (λ (rows : List (List ℤ)). bound_in rows i j) es ∙ written_here b.entries i j w (omega arith) (omega arith) in
    same_view (bounds_view x) (lowered (bounds_view b) i j v) ps
    (λ p q.
    let other : ((p ≡ i) × (q ≡ j) → ⊥) → bound_in x.entries p q ≡ bound_in b.entries p q =
    λ n. ap (λ (rows : List (List ℤ)). bound_in rows p q) es ∙ written_elsewhere b.entries i j w (omega arith) p q n
    in
    elim (cases_eq p i) [
      | inl ep ↦ elim (cases_eq q j) [
        | inl eq ↦ rw (ep, eq) (grind (arith, nat_tests))
        | inr n ↦ let same = other (λ z. n z.1) in grind (arith, nat_tests)
      ]
      | inr n ↦ let same = other (λ z. n z.0) in grind (arith, nat_tests)
    ])
