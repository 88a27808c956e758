-- What the value lines of the four tables stand for.
use Rattle.std.specs.Prelude.{ℕ, cond, List, length, ℤ, pos, negsuc, Ok, Err, Result, ◌==◌}
use Rattle.std.specs.Option.{ok_or}
use Rattle.dayline.specs.Fields.{field_at}
use Rattle.dayline.specs.Numbers.{number}
use Rattle.dayline.specs.Parts.{fields_of}
use Rattle.dayline.specs.declared.fields.FieldFault.{FieldFault}
use Rattle.dayline.specs.declared.fields.FieldFault.TheVariants.{BadNumber, UnknownLabel}
use Rattle.model.specs.declared.slips.Distance.{Distance}
use Rattle.model.specs.declared.slips.Use.{Use}
use Rattle.runs.specs.declared.calls.Call.{Call}
use Rattle.runs.specs.declared.calls.Call.TheVariants.{Name, PostDistance, PostUse, WithdrawDistance, WithdrawUse, Tighten, LookBound, LookLevels}
use Rattle.daytables.specs.Labels.{point_of}
use Rattle.daytables.specs.declared.faults.LineFault.{LineFault}
use Rattle.daytables.specs.declared.faults.LineFault.TheVariants.{BadCount, Field}
use Rattle.daytables.specs.declared.rows.FloorLine.{FloorLine}

-- what a line asks of the sheet
pub data Entry : Type 0 where
  -- a point of that label
  naming : List ℕ → Entry
  -- a distance slip under a number
  slip : ℕ → Distance → Entry
  -- a use of a place under a number
  use' : ℕ → ℕ → Use → Entry
  -- what no line can ask
  other : Entry

-- the call that does it
abbrev pub entry_of : Call → Entry
entry_of (Name text) = naming text.now
entry_of (PostDistance k s) = slip k s
entry_of (PostUse place k u) = use' place k u
entry_of (WithdrawDistance k) = other
entry_of (WithdrawUse place k) = other
entry_of Tighten = other
entry_of (LookBound i j) = other
entry_of (LookLevels place x) = other

-- ---- fields, in their order

-- the field is read, and then what comes after it
abbrev pub and_then : {A B : Type 0} → Result A FieldFault → (A → Result B LineFault) → Result B LineFault
and_then (Ok x) next = next x
and_then (Err why) next = Err (Field why)

-- a line with that many fields
abbrev pub with_fields : {B : Type 0} → ℕ → List ℕ → Result B LineFault → Result B LineFault
with_fields n line row = cond (length (fields_of line) == n) row (Err BadCount)

-- a column of numbers
abbrev pub number_at : List ℕ → ℕ → Result ℤ FieldFault
number_at line i = ok_or (number (field_at line i)) BadNumber

-- a column of labels
abbrev pub point_at : List (List ℕ) → List ℕ → ℕ → Result ℕ FieldFault
point_at labels line i = ok_or (point_of labels (field_at line i)) UnknownLabel

-- a negative number is no slip number, as 0 is none
abbrev pub slip_number : ℤ → ℕ
slip_number (pos n) = n
slip_number (negsuc n) = 0

-- a negative number is no place, as 64 is none
abbrev pub place_number : ℤ → ℕ
place_number (pos n) = n
place_number (negsuc n) = 64

-- ---- the tables

-- `floor roof start`
unfoldable pub floor_row : List ℕ → Result FloorLine LineFault
floor_row line =
    with_fields 3 line
    (and_then (number_at line 0) (λ floor.
    and_then (number_at line 1) (λ roof.
    and_then (number_at line 2) (λ start.
    Ok (record { floor = floor; roof = roof; start = start })))))

-- `label`: the word that names a point
unfoldable pub label_row : List ℕ → Result (List ℕ) LineFault
label_row line = with_fields 1 line (Ok (field_at line 0))

-- `slip from to minutes`
unfoldable pub slip_row : (labels : List (List ℕ)) → List ℕ → Result Entry LineFault
slip_row labels line =
    with_fields 4 line
    (and_then (number_at line 0) (λ k.
    and_then (point_at labels line 1) (λ from.
    and_then (point_at labels line 2) (λ to.
    and_then (number_at line 3) (λ minutes.
    Ok (slip (slip_number k) (record { from = from; to = to; minutes = minutes })))))))

-- `place slip first last kilos`
unfoldable pub place_row : (labels : List (List ℕ)) → List ℕ → Result Entry LineFault
place_row labels line =
    with_fields 5 line
    (and_then (number_at line 0) (λ place.
    and_then (number_at line 1) (λ k.
    and_then (point_at labels line 2) (λ first.
    and_then (point_at labels line 3) (λ last.
    and_then (number_at line 4) (λ kilos.
    Ok (use' (place_number place) (slip_number k) (record { first = first; last = last; kilos = kilos }))))))))

-- the result with its value turned into another
abbrev pub ok_map : {A B E : Type 0} → (A → B) → Result A E → Result B E
ok_map f (Ok x) = Ok (f x)
ok_map f (Err why) = Err why
