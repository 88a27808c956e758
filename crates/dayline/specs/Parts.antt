-- A text parted by a byte.
use Rattle.std.specs.Prelude.{◌≡◌, ℕ, zero, suc, ◌+◌, ◌-◌, ◌<◌, cond, List, [], ◌∷◌, length, take, ◌==◌, ◌≢◌, slice_index, slice_index_or}
use Rattle.std.specs.List.{slice_split, join_with_byte}

-- the parts of a text before, between and after the places of one byte
abbrev pub parts : ℕ → List ℕ → List (List ℕ)
parts at text = slice_split (λ b. b == at) text

-- put together again the parts are the text, and none of them has the byte
pub record Parted (at : ℕ) (text : List ℕ) (ps : List (List ℕ)) : Type 0 where
  pub whole : join_with_byte at ps ≡ text
  pub free : (i k : ℕ) → i < length ps → k < length (slice_index_or ps i []) → slice_index (slice_index_or ps i []) k ≢ at

-- all but the last
abbrev pub front : List (List ℕ) → List (List ℕ)
front ps = take (length ps - 1) ps

-- each line ends with byte 10: what stands behind the last one is no line
abbrev pub lines_of : List ℕ → List (List ℕ)
lines_of text = front (parts 10 text)

-- exactly one space separates two fields
abbrev pub fields_of : List ℕ → List (List ℕ)
fields_of line = parts 32 line

-- the line of that number, counted from 1; empty where there is none
abbrev pub line_of : List ℕ → ℕ → List ℕ
line_of text number = cond (number == 0) [] (slice_index_or (lines_of text) (number - 1) [])

-- where the field of an index begins: after the fields before it, each with its space
abbrev pub place_of : ℕ → List (List ℕ) → ℕ
place_of zero fields = 0
place_of (suc i) [] = 0
place_of (suc i) (f ∷ fields) = length f + 1 + place_of i fields
