-- Which files can be read, and which fault tells that one cannot.
use Rattle.std.specs.Prelude.{ℕ, ◌-◌, cond, List, length, Some, None, Ok, Err, Option, codes, Result, ◌==◌, nat_lt, slice_index}
use Rattle.model.specs.declared.refusals.Refusal.{Refusal}
use Rattle.model.specs.declared.refusals.Refusal.TheVariants.{FileMissing, FileTooLong, FileUnended}
use Rattle.dayfile.specs.declared.faults.DayFile.{DayFile}
use Rattle.dayfile.specs.declared.faults.DayFile.TheVariants.{Bridge, Hall}
use Rattle.dayfile.specs.declared.faults.Fault.{Fault}
use Rattle.dayfile.specs.declared.faults.Place.{Place}

-- the number of a file in a printed fault
abbrev pub file_number : DayFile → ℕ
file_number Bridge = 1
file_number Hall = 2

-- the name of a file
abbrev pub file_name : DayFile → List ℕ
file_name Bridge = codes "bridge.day"
file_name Hall = codes "hall.day"

-- a line of a file, counted from 1; 0 stands for the file as a whole
abbrev pub place_at : DayFile → ℕ → Place
place_at file line = record { file = file; line = line }

abbrev pub fault_at : Place → Refusal → Fault
fault_at at why = record { file = at.file; line = at.line; refusal = why }

-- a file can be read, unless it is not there, has more than 65,536 bytes, or does not end with byte 10
abbrev pub readable : Option (List ℕ) → Result Unit Refusal
readable None = Err FileMissing
readable (Some bytes) =
    cond (nat_lt 65536 (length bytes)) (Err FileTooLong) (cond (slice_index bytes (length bytes - 1) == 10) (Ok tt) (Err FileUnended))

-- the fault of a file as a whole, if there is one, before what comes after
abbrev pub or_fault : DayFile → Result Unit Refusal → Result Unit Fault → Result Unit Fault
or_fault file (Err why) after = Err (fault_at (place_at file 0) why)
or_fault file (Ok x) after = after

-- hall.day is tested first
abbrev pub outcome : (bridge hall : Option (List ℕ)) → Result Unit Fault
outcome bridge hall = or_fault Hall (readable hall) (or_fault Bridge (readable bridge) (Ok tt))

-- one of the two
abbrev pub one_of : (bridge hall : List ℕ) → DayFile → List ℕ
one_of bridge hall Bridge = bridge
one_of bridge hall Hall = hall
