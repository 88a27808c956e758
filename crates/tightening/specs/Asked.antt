-- What a table is asked for, by slips and by bounds.
use Rattle.std.specs.Prelude.{◌≡◌, ℕ, ◌<◌, List, map, ℤ, negsuc, ◌≤ℤ◌, ◌<ℤ◌}
use Rattle.model.specs.Plans.{View}
use Rattle.model.specs.Uses.{In}
use Rattle.model.specs.declared.slips.Distance.{Distance}
use Rattle.register.specs.Lookups.{what_of}
use Rattle.register.specs.declared.records.Numbered.{Numbered}

-- the distances of some slips
abbrev pub distances : List (Numbered Distance) → List Distance
distances xs = map what_of xs

-- some slip asks for less than a table holds
abbrev pub TooLow : List Distance → Type 0
TooLow ds = (d : Distance) × In d ds × (d.minutes <ℤ negsuc 10079)

-- some slip asks that j come at most b after i
abbrev pub Posts : List Distance → ℕ → ℕ → ℤ → Type 0
Posts ds i j b = (d : Distance) × In d ds × (i ≡ d.from) × (j ≡ d.to) × (b ≡ d.minutes)

-- the bounds from i to the points below k
abbrev pub RowBounds : View → ℕ → ℕ → ℕ → ℕ → ℤ → Type 0
RowBounds b i k p q v = (p ≡ i) × (q < k) × (v ≡ b.at p q)

-- the bounds from the points below k to the points below n
abbrev pub RowsBounds : View → ℕ → ℕ → ℕ → ℕ → ℤ → Type 0
RowsBounds b n k p q v = (p < k) × (q < n) × (v ≡ b.at p q)

-- some bound from i to the points below n is less than a table holds
abbrev pub RowTooLow : View → ℕ → ℕ → Type 0
RowTooLow b i n = (j : ℕ) × (j < n) × (b.at i j <ℤ negsuc 10079)

-- some bound between the points below n is less than a table holds
abbrev pub RowsTooLow : View → ℕ → Type 0
RowsTooLow b n = (i : ℕ) × (j : ℕ) × (i < n) × (j < n) × (b.at i j <ℤ negsuc 10079)

-- no bound from i is below the entry
abbrev pub RowRests : View → View → ℕ → ℕ → Type 0
RowRests m b i k = (j : ℕ) → j < k → m.at i j ≤ℤ b.at i j

-- no bound from the points below k is below its entry
abbrev pub RowsRest : View → View → ℕ → ℕ → Type 0
RowsRest m b n k = (i : ℕ) → i < k → RowRests m b i n
