-- The fields of a line, as their columns read them.
use Rattle.std.specs.Prelude.{◌≡◌, ℕ, ◌<◌, List, [], length, ℤ, Some, None, Ok, Err, Result, slice_index_or}
use Rattle.dayline.specs.Numbers.{number, ReadsWritten}
use Rattle.dayline.specs.Parts.{fields_of, place_of}
use Rattle.dayline.specs.declared.fields.Column.{Column}
use Rattle.dayline.specs.declared.fields.Column.TheVariants.{Words, Numbers}
use Rattle.dayline.specs.declared.fields.Field.{Field}
use Rattle.dayline.specs.declared.fields.Field.TheVariants.{Word, Number}
use Rattle.dayline.specs.declared.fields.FieldFault.{FieldFault}
use Rattle.dayline.specs.declared.fields.FieldFault.TheVariants.{BadNumber}
use Rattle.dayline.specs.declared.fields.Part.{Part}

-- the bytes of the field of an index, counted from 0; none where the line has no such field
abbrev pub field_at : List ℕ → ℕ → List ℕ
field_at line i = slice_index_or (fields_of line) i []

-- the part of the line that is the field of that index
pub record PartOf (line : List ℕ) (i : ℕ) (part : Part) : Type 0 where
  pub bytes : part.bytes.now ≡ field_at line i
  pub place : i < length (fields_of line) → part.place ≡ place_of i (fields_of line)

-- a column of words takes every field; one of numbers takes the field that writes a number that is near, and refuses what writes none
abbrev pub ReadsField : List ℕ → ℕ → Column → Result Field FieldFault → Type 0
ReadsField line i Words (Ok (Word part)) = PartOf line i part
ReadsField line i Words (Ok (Number part n)) = ⊥
ReadsField line i Words (Err why) = ⊥
ReadsField line i Numbers (Ok (Word part)) = ⊥
ReadsField line i Numbers (Ok (Number part n)) = PartOf line i part × (number (field_at line i) ≡ Some n) × ReadsWritten (field_at line i) (Some n)
ReadsField line i Numbers (Err why) = (why ≡ BadNumber) × (number (field_at line i) ≡ None) × ReadsWritten (field_at line i) None

-- the bytes of a field
abbrev pub bytes_of : Field → List ℕ
bytes_of (Word part) = part.bytes.now
bytes_of (Number part n) = part.bytes.now

-- the number of a field; a word is none
abbrev pub number_of : Field → Result ℤ FieldFault
number_of (Word part) = Err BadNumber
number_of (Number part n) = Ok n
