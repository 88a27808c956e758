-- The start of a table, row by row.
use Rattle.std.proofs.Common.{◌≡◌, ℕ, ◌+◌, ◌<◌, cond, ◌&&◌, ◌||◌, eqb, ltb, pos, negsuc, ◌≤ℤ◌, refl, arith}
use Rattle.std.proofs.lemmas.Int.{ints}
use Rattle.std.proofs.lemmas.Bool.Decides.{nat_tests}
use Rattle.model.specs.Plans.{View}
use Rattle.tables.specs.Views.{even_view, start_view, lowered}
use Rattle.tables.specs.Ways.{ClosedThrough}
use Rattle.tables.proofs.Orders.{same_view}

-- the rows below k are done
abbrev pub part_view : ℕ → ℕ → ℕ → View
part_view n h k = record { points = n; at = λ i j. cond (ltb i n && ltb j n) (cond (ltb i k && (eqb i j || eqb j 0)) (pos 0) (pos h)) (pos 10080) }

pub part_none : (n h : ℕ) → even_view n (pos h) ≡ part_view n h 0
part_none n h = same_view (even_view n (pos h)) (part_view n h 0) refl (λ i j. grind (arith, nat_tests))

pub part_more : (n h p : ℕ) → p < n → lowered (lowered (part_view n h p) p p (pos 0)) p 0 (pos 0) ≡ part_view n h (p + 1)
part_more n h p lt =
    same_view (lowered (lowered (part_view n h p) p p (pos 0)) p 0 (pos 0)) (part_view n h (p + 1)) refl (λ i j. grind (arith, nat_tests, ints))

pub part_all : (n h : ℕ) → part_view n h n ≡ start_view n h
part_all n h = same_view (part_view n h n) (start_view n h) refl (λ i j. grind (arith, nat_tests))

-- the entries of a start: none is low, a point comes no later than itself, and no way is shorter than an entry
pub start_low : (n h i j : ℕ) → negsuc 10079 ≤ℤ (start_view n h).at i j
start_low n h i j = grind (arith, nat_tests, ints)

pub start_diagonal : (n h i : ℕ) → i < n → (start_view n h).at i i ≤ℤ pos 0
start_diagonal n h i hi = grind (arith, nat_tests, ints)

pub start_closed : (n h k : ℕ) → k < n → ClosedThrough k (start_view n h)
start_closed n h k hk i j hi hj = grind (arith, nat_tests, ints)
