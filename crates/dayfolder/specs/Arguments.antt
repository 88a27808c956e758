-- What the words after a program's name ask for.
use Rattle.std.specs.Prelude.{ℕ, List, [], ◌∷◌, Option, Some, None, codes, bytes_eq, if◌then◌else◌}
use Rattle.dayfolder.specs.declared.arguments.Request.{Request}
use Rattle.dayfolder.specs.declared.arguments.Request.TheVariants.{Help, Day}

-- the folder whose day is asked for
abbrev pub folder_of : Request → Option (List ℕ)
folder_of Help = None
folder_of (Day folder) = Some folder.now

-- the folder that the first word names; with no word the one that the program runs in, and none where the word asks for the help
abbrev pub chosen : List (List ℕ) → Option (List ℕ)
chosen [] = Some (codes ".")
chosen (word ∷ others) = if bytes_eq word (codes "--help") then None else Some word
