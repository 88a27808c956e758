-- What was read of the files of a folder.
use Rattle.std.specs.Prelude.{ℕ, List, Option, Result}
use Rattle.std.specs.Option.{option_map}
use Rattle.dayfile.specs.Files.{outcome}
use Rattle.dayfile.specs.declared.faults.Fault.{Fault}
use Rattle.dayfolder.specs.declared.folders.DayFolder.{DayFolder}

abbrev pub bridge_of : DayFolder → Option (List ℕ)
bridge_of folder = option_map (λ bytes. bytes.items) folder.bridge

abbrev pub hall_of : DayFolder → Option (List ℕ)
hall_of folder = option_map (λ bytes. bytes.items) folder.hall

-- whether both can be read, or the fault that one cannot
abbrev pub readable : DayFolder → Result (Unit {0}) Fault
readable folder = outcome (bridge_of folder) (hall_of folder)
