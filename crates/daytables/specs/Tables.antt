-- What is due at each line of the day's files, and what a line there comes to.
use Rattle.std.specs.Prelude.{ℕ, Bool, true, false, cond, List, length, Ok, Err, codes, Result, ◌==◌}
use Rattle.std.specs.Str.{bytes_eq}
use Rattle.daytables.specs.Rows.{Entry, entry_of, floor_row, label_row, slip_row, place_row, ok_map}
use Rattle.daytables.specs.declared.due.Due.{Due}
use Rattle.daytables.specs.declared.due.Due.TheVariants.{FloorNames, FirstBunker, SecondBunker, FloorEnd, LabelNames, LabelRows, SlipNames, SlipRows, PlaceNames, PlaceRows, FileEnd}
use Rattle.daytables.specs.declared.due.Row.{Row}
use Rattle.daytables.specs.declared.due.Row.TheVariants as row
use Rattle.daytables.specs.declared.due.Step.{Step}
use Rattle.daytables.specs.declared.due.Table.{Table}
use Rattle.daytables.specs.declared.due.Table.TheVariants.{Floor, Label, Slip, Place}
use Rattle.daytables.specs.declared.faults.LineFault.{LineFault}
use Rattle.daytables.specs.declared.faults.LineFault.TheVariants.{NotDue}
use Rattle.daytables.specs.declared.rows.FloorLine.{FloorLine}

-- what a line stands for
pub data Said : Type 0 where
  -- a line of names, or an empty line
  nothing : Said
  makes : FloorLine → Said
  names : List ℕ → Said
  posts : Entry → Said

-- what a line stands for, and what is due after it
pub record Came : Type 0 where
  pub said : Said
  pub next : Due

abbrev pub came : Due → Said → Came
came next said = record { said = said; next = next }

-- ---- a line where something is due

-- the line of names of each table
abbrev pub names_of : Table → List ℕ
names_of Floor = codes "floor roof start"
names_of Label = codes "label"
names_of Slip = codes "slip from to minutes"
names_of Place = codes "place slip first last kilos"

-- a line of names, which must match byte for byte
abbrev pub names_due : Table → Due → List ℕ → Result Came LineFault
names_due table next line = cond (bytes_eq line (names_of table)) (Ok (came next nothing)) (Err NotDue)

-- a value line, which is not empty
abbrev pub filled : List ℕ → Result Came LineFault → Result Came LineFault
filled line row = cond (length line == 0) (Err NotDue) row

-- an empty line, which closes the table, or a value line
abbrev pub closed_or : Due → List ℕ → Result Came LineFault → Result Came LineFault
closed_or next line row = cond (length line == 0) (Ok (came next nothing)) row

-- the lines of both files: each is what is due there, or it is refused
abbrev pub takes : Due → (labels : List (List ℕ)) → List ℕ → Result Came LineFault
takes FloorNames labels line = names_due Floor FirstBunker line
takes FirstBunker labels line = filled line (ok_map (λ b. came SecondBunker (makes b)) (floor_row line))
takes SecondBunker labels line = filled line (ok_map (λ b. came FloorEnd (makes b)) (floor_row line))
takes FloorEnd labels line = closed_or FileEnd line (Err NotDue)
takes LabelNames labels line = names_due Label LabelRows line
takes LabelRows labels line = closed_or SlipNames line (ok_map (λ w. came LabelRows (names w)) (label_row line))
takes SlipNames labels line = names_due Slip SlipRows line
takes SlipRows labels line = closed_or FileEnd line (ok_map (λ e. came SlipRows (posts e)) (slip_row labels line))
takes PlaceNames labels line = names_due Place PlaceRows line
takes PlaceRows labels line = closed_or FileEnd line (ok_map (λ e. came PlaceRows (posts e)) (place_row labels line))
takes FileEnd labels line = Err NotDue

-- whether the file may end there
abbrev pub may_end : Due → Bool
may_end FloorNames = false
may_end FirstBunker = false
may_end SecondBunker = false
may_end FloorEnd = true
may_end LabelNames = false
may_end LabelRows = false
may_end SlipNames = false
may_end SlipRows = true
may_end PlaceNames = false
may_end PlaceRows = true
may_end FileEnd = true

-- ---- the same as code holds it

abbrev pub said_of : Row → Said
said_of row.Nothing = nothing
said_of (row.Bunker b) = makes b
said_of (row.Label word) = names word.now
said_of (row.Post call) = posts (entry_of call)

abbrev pub came_of : Step → Came
came_of step = record { said = said_of step.row; next = step.next }
