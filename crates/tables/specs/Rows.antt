-- Rows of bounds, and what relaxing does with them.
use Rattle.std.specs.Prelude.{◌≡◌, ℕ, ◌<◌, ◌≤◌, List, [], length, ℤ, pos, negsuc, ◌+ℤ◌, ◌≤ℤ◌, slice_index_or}
use Rattle.std.specs.Int.{int_min}

-- the bound in row i at j
abbrev pub bound_in : List (List ℤ) → ℕ → ℕ → ℤ
bound_in rows i j = slice_index_or (slice_index_or rows i []) j (pos 0)

-- each bound of a row is from -10,081 to 10,080
abbrev pub Within : List ℤ → Type 0
Within row = (j : ℕ) → (negsuc 10080 ≤ℤ slice_index_or row j (pos 0)) × (slice_index_or row j (pos 0) ≤ℤ pos 10080)

-- so are the bounds of each of q rows, of which each has 64
abbrev pub RowsWithin : ℕ → List (List ℤ) → Type 0
RowsWithin q rows = (i : ℕ) → i < q → (length (slice_index_or rows i []) ≡ 64) × Within (slice_index_or rows i [])

-- the way that goes so far first, and then as a row tells
abbrev pub way : ℤ → List ℤ → ℕ → ℤ
way first over j = first +ℤ slice_index_or over j (pos 0)

-- no such way is below -10,080
abbrev pub LongWays : ℤ → List ℤ → Type 0
LongWays first over = (j : ℕ) → j < length over → negsuc 10079 ≤ℤ way first over j

-- ys is xs, where each entry below q is the lesser of itself and the way to it
pub record Relaxes (first : ℤ) (over : List ℤ) (q : ℕ) (xs ys : List ℤ) : Type 0 where
  pub same : length ys ≡ length xs
  pub least : (j : ℕ) → j < q → slice_index_or ys j (pos 0) ≡ int_min (slice_index_or xs j (pos 0)) (way first over j)
  pub rest : (j : ℕ) → q ≤ j → slice_index_or ys j (pos 0) ≡ slice_index_or xs j (pos 0)

-- no way from a row below q to k, and then as `over` tells, is below -10,080
abbrev pub LongRows : ℕ → List ℤ → ℕ → List (List ℤ) → Type 0
LongRows k over q rows = (i : ℕ) → i < q → LongWays (bound_in rows i k) over

-- b is a, where each row below q is relaxed by the ways to k, and then as `over` tells
pub record RelaxesRows (k : ℕ) (over : List ℤ) (q : ℕ) (a b : List (List ℤ)) : Type 0 where
  pub relaxed : (i : ℕ) → i < q → Relaxes (bound_in a i k) over (length over) (slice_index_or a i []) (slice_index_or b i [])
  pub rest : (i : ℕ) → q ≤ i → slice_index_or b i [] ≡ slice_index_or a i []
