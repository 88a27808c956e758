-- The steps of rows that are relaxed.
use Rattle.std.proofs.Common.{◌≡◌, ℕ, ◌+◌, ◌-◌, ◌<◌, ◌≢◌, List, [], ◌++◌, length, get_or, drop, set, ℤ, pos, negsuc, ◌+ℤ◌, ◌≤ℤ◌, ◌<ℤ◌, fold, ◌∙◌, inl, inr, arith, below_more}
use borrow.Rule.Slice.PartMut.{post_of}
use Rattle.std.specs.Int.{int_min}
use Rattle.std.proofs.lemmas.List.{length-set, get_or-set_same, get_or-set_other, get_or_append_left, get_or-append_right, get_or-drop, get_or_default}
use Rattle.std.proofs.lemmas.Int.{ints, clamps, fold-int_min_bounds, fold-int_min_reached}
use Rattle.std.proofs.lemmas.Bool.{cases_lt}
use Rattle.tables.specs.Rows.{bound_in, Within, RowsWithin, way, LongWays, Relaxes, RelaxesRows}

-- one entry more
pub relaxes_more : (first : ℤ) (over : List ℤ) (j : ℕ) (xs ys : List ℤ) (w : ℤ) → j < length ys → Relaxes first over j xs ys
    → w ≡ int_min (get_or ys j (pos 0)) (way first over j) → Relaxes first over (j + 1) xs (set ys j w)
relaxes_more first over j xs ys w lt so is =
    record {
      same = length-set ys j w ∙ so.same;
      least = below_more _ _
          (λ p h. let ne : p ≢ j = omega arith in get_or-set_other ys j p w (pos 0) ne ∙ so.least p h)
          (let same : get_or ys j (pos 0) ≡ get_or xs j (pos 0) = so.rest j (omega arith) in rw (← same) (get_or-set_same ys j w (pos 0) lt ∙ is));
      rest = λ p h. let ne : p ≢ j = omega arith in get_or-set_other ys j p w (pos 0) ne ∙ so.rest p (omega arith);
    }

-- the shortest of the ways that go `first` and then as `over` tells
module _ (first : ℤ) (over : List ℤ) (r : ℤ) (shortest : r ≡ fold int_min (pos 10080) over) where
  pub all_long : negsuc 10079 ≤ℤ (first +ℤ r) → LongWays first over
  all_long h j hj = let least = (fold-int_min_bounds (pos 10080) over r shortest).1 j (pos 0) hj in omega (arith, ints)

  pub one_short : negsuc 10080 ≤ℤ first → (first +ℤ r) <ℤ negsuc 10079 → LongWays first over → ⊥
  one_short low h long =
      elim (fold-int_min_reached (pos 10080) over r shortest) [
        | inl e ↦ absurd (omega (arith, ints))
        | inr (k, hk, e) ↦ let way = long k hk in absurd (omega (arith, ints, get_or_default over k r (pos 0) hk))
      ]

-- a row that is relaxed where no way is below -10,080
pub relaxed_within : (first : ℤ) (over xs ys : List ℤ) → LongWays first over → (length xs ≡ 64) × Within xs → Relaxes first over (length over) xs ys → (length ys ≡ 64) × Within ys
relaxed_within first over xs ys long within so = (
  so.same ∙ within.0,
  λ j.
      let was = within.1 j in
      elim (cases_lt j (length over)) [
        | inl h ↦ let way = long j h in let is = so.least j h in (omega (arith, ints, clamps), omega (arith, ints, clamps))
        | inr h ↦ let same = so.rest j h in rw same was
      ],
)

-- rows of which the first are written
pub front_within : (n : ℕ) (xs ys : List (List ℤ)) → length ys ≡ n → RowsWithin n ys → RowsWithin 64 xs → RowsWithin 64 (ys ++ post_of 0 n xs)
front_within n xs ys long here there i hi =
    elim (cases_lt i n) [
      | inl h ↦ rw (get_or_append_left ys (post_of 0 n xs) [] i (omega arith)) (here i h)
      | inr h ↦
          let place : n + (i - n) ≡ i = omega arith in
          rw (get_or-append_right ys (post_of 0 n xs) n i [] long h, get_or-drop n (drop 0 xs) (i - n) [], place) (there i hi)
    ]

-- one row more
pub rows_more : (k : ℕ) (over : List ℤ) (i : ℕ) (a b : List (List ℤ)) (row : List ℤ) → i < length b → RelaxesRows k over i a b
    → Relaxes (bound_in a i k) over (length over) (get_or a i []) row → RelaxesRows k over (i + 1) a (set b i row)
rows_more k over i a b row lt so relaxes =
    record {
      relaxed = below_more _ _
          (λ p h. let ne : p ≢ i = omega arith in rw (get_or-set_other b i p row [] ne) (so.relaxed p h))
          (rw (get_or-set_same b i row [] lt) relaxes);
      rest = λ p h. let ne : p ≢ i = omega arith in get_or-set_other b i p row [] ne ∙ so.rest p (omega arith);
    }
