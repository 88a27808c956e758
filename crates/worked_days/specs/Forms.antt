-- How a worked day and what it shows are written down.
use Rattle.std.specs.Prelude.{◌≡◌, ℕ, suc, List, [], ◌∷◌, length, ℤ, pos, neg_ℤ, Some, Ok, Option, slice_index_or}
use Rattle.model.specs.Plans.{View}
use Rattle.model.specs.Uses.{single}
use Rattle.model.specs.declared.slips.Distance.{Distance}
use Rattle.model.specs.declared.slips.Use.{Use}
use Rattle.model.specs.declared.verdicts.Verdict.{Verdict}
use Rattle.register.specs.Lookups.{nothing, put_at}
use Rattle.runs.specs.Days.{Day, points, opening}
use Rattle.runs.specs.Shown.{Shown, Means, Shows, Answers, look_bound}

-- a number below 0
abbrev pub minus : ℕ → ℤ
minus n = neg_ℤ (pos n)

-- ---- days

-- records under the numbers k, k + 1 and so on
abbrev pub numbered_from : {X : Type 0} → ℕ → List X → ℕ → Option X
numbered_from k [] = nothing
numbered_from k (x ∷ xs) = put_at (numbered_from (suc k) xs) k (Some x)

-- a day of 1,440 minutes with these points behind opening, and with slips and uses numbered from 1
abbrev pub day : {S : Type 0} → (labels : List (List ℕ)) (slips : List Distance) (settings : S) (uses : List Use) → Day S
day labels slips settings uses = record { horizon = 1440; labels = opening ∷ labels; slips = numbered_from 1 slips; settings = settings; uses = single (numbered_from 1 uses) }

-- `to` comes at most so many minutes after `from`
abbrev pub slip : (from to : ℕ) (minutes : ℤ) → Distance
slip from to minutes = record { from = from; to = to; minutes = minutes }

-- p lies between two minutes
abbrev pub window : (p earliest latest : ℕ) → List Distance
window p earliest latest = slip 0 p (pos latest) ∷ slip p 0 (minus earliest) ∷ []

-- q comes so many minutes after p
abbrev pub exactly : (p q minutes : ℕ) → List Distance
exactly p q minutes = slip p q (pos minutes) ∷ slip q p (minus minutes) ∷ []

abbrev pub use_of : (first last : ℕ) (kilos : ℤ) → Use
use_of first last kilos = record { first = first; last = last; kilos = kilos }

-- ---- what they show

-- a table by its rows: row i has the bounds from point i to each point
abbrev pub table : List (List ℤ) → View
table rows = record { points = length rows; at = λ i j. slice_index_or (slice_index_or rows i []) j (pos 10080) }

-- once the day is tightened this is shown, and tightening answers this verdict, word and count
pub record Tightens {S : Type 0} (means : Means S) (d : Day S) (shown : Shown) (verdict : Verdict) (word count : ℕ) : Type 0 where
  pub shows : Shows means d shown
  pub answers : Answers (points d) shown (record { verdict = verdict; loose = word; count = count })

-- looks at the sheet then: p lies between two minutes
pub record Between {S : Type 0} (d : Day S) (shown : Shown) (p earliest latest : ℕ) : Type 0 where
  pub low : look_bound (points d) shown p 0 ≡ Ok (minus earliest)
  pub high : look_bound (points d) shown 0 p ≡ Ok (pos latest)
