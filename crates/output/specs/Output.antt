-- The output of a tightened day: lines that end with byte 10, of fields with one space between two.
use Rattle.std.specs.Prelude.{ℕ, suc, List, [], ◌∷◌, ◌++◌, ℤ, neg_ℤ, codes, decimal}
use Rattle.std.specs.Fmt.{signed_decimal}
use Rattle.model.specs.Plans.{View}
use Rattle.model.specs.Verdicts.{word_of}
use Rattle.runs.specs.Shown.{Shown}
use Rattle.runs.specs.declared.answers.Answer.{Answer}

abbrev pub spaced : List (List ℕ) → List ℕ
spaced [] = []
spaced (field ∷ []) = field
spaced (field ∷ (next ∷ fields)) = field ++ 32 ∷ spaced (next ∷ fields)

abbrev pub line : List (List ℕ) → List ℕ
line fields = spaced fields ++ 10 ∷ []

-- ---- the points

abbrev pub earliest_of : View → ℕ → ℤ
earliest_of m p = neg_ℤ (m.at p 0)

abbrev pub latest_of : View → ℕ → ℤ
latest_of m p = m.at 0 p

-- the line of a point: its label, its earliest and its latest minute
abbrev pub point_line : List ℕ → ℤ → ℤ → List ℕ
point_line label from to = line (label ∷ signed_decimal from ∷ signed_decimal to ∷ [])

-- of the points from p on, by rising number
abbrev pub point_lines : View → ℕ → List (List ℕ) → List ℕ
point_lines m p [] = []
point_lines m p (label ∷ labels) = point_line label (earliest_of m p) (latest_of m p) ++ point_lines m (suc p) labels

-- the table of the points: its line of names, and a line for each point
abbrev pub point_table : View → List (List ℕ) → List ℕ
point_table m labels = line (codes "label" ∷ codes "earliest" ∷ codes "latest" ∷ []) ++ point_lines m 0 labels

-- ---- the verdict

-- the table of the verdict: its line of names, and one line with the word and the count of loose points
abbrev pub verdict_table : Answer → List ℕ
verdict_table a = line (codes "verdict" ∷ codes "loose" ∷ []) ++ line (word_of a.verdict ∷ decimal a.count ∷ [])

-- ---- the whole, by the labels of the points, what the sheet shows and the answer of tightening for it

abbrev pub output_of : List (List ℕ) → Shown → Answer → List ℕ
output_of labels Shown.nothing a = []
output_of labels Shown.no_plan a = verdict_table a
output_of labels (Shown.bounds m any) a = point_table m labels ++ (line [] ++ verdict_table a)
