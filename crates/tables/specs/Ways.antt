-- Ways over a third point, and what relaxing through it does.
use Rattle.std.specs.Prelude.{◌≡◌, ℕ, ◌<◌, ◌≤◌, Bool, true, false, List, negsuc, ◌+ℤ◌, ◌≤ℤ◌, slice_index_or}
use Rattle.std.specs.Int.{int_min}
use Rattle.model.specs.Plans.{View, Sound, Tighter}

-- no entry is larger than the way over k
abbrev pub ClosedThrough : ℕ → View → Type 0
ClosedThrough k m = (i j : ℕ) → i < m.points → j < m.points → m.at i j ≤ℤ (m.at i k +ℤ m.at k j)

-- it is so over each point that is marked
abbrev pub Settled : List Bool → View → Type 0
Settled marks m = (k i j : ℕ) → (slice_index_or marks k false ≡ true) × (k < m.points) × (i < m.points) × (j < m.points) → m.at i j ≤ℤ (m.at i k +ℤ m.at k j)

-- no way over k from a point below q is below -10,080
abbrev pub LongThrough : ℕ → ℕ → View → Type 0
LongThrough k q m = (i : ℕ) → i < q → (j : ℕ) → j < m.points → negsuc 10079 ≤ℤ (m.at i k +ℤ m.at k j)

-- b is a, where each entry from a point below q is the lesser of itself and the way over k
pub record Through (k q : ℕ) (a b : View) : Type 0 where
  pub same : b.points ≡ a.points
  pub least : (i : ℕ) → i < q → (j : ℕ) → j < a.points → b.at i j ≡ int_min (a.at i j) (a.at i k +ℤ a.at k j)
  pub rest : (i j : ℕ) → q ≤ i → b.at i j ≡ a.at i j

-- no entry is below -10,080
abbrev pub Low : View → Type 0
Low m = (i j : ℕ) → i < m.points → j < m.points → negsuc 10079 ≤ℤ m.at i j

-- b is a, with entries lowered or not, and no sound table is lost
pub record Relaxed (a b : View) : Type 0 where
  pub tighter : Tighter b a
  pub keeps : (n : View) → Sound n → Tighter n a → Tighter n b

-- b is a relaxed, and closed through k, as through each point that a is closed through
pub record Settles (k : ℕ) (a b : View) : Type 0 where
  pub relaxed : Relaxed a b
  pub low : Low a → Low b
  pub closed : ClosedThrough k b
  pub stays : (p : ℕ) → p < a.points → ClosedThrough p a → ClosedThrough p b
