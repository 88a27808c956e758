-- How a fault is printed.
use Rattle.std.specs.Prelude.{ℕ, List, ◌++◌, codes, decimal, unwrap_or}
use Rattle.dayfile.specs.Files.{file_number}
use Rattle.dayfile.specs.declared.faults.Fault.{Fault}
use Rattle.model.specs.Refusals.{number_of}

-- a line of names, and a line of the file's number, the line in it and the refusal's number, 0 where it has none
abbrev pub table_of : Fault → List ℕ
table_of fault = codes "file line refusal\n" ++ (decimal (file_number fault.file) ++ (codes " " ++ (decimal fault.line ++ (codes " " ++ decimal (unwrap_or (number_of fault.refusal) 0)))))
