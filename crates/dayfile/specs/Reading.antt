-- What a day's two files stand for, in the order of reading, and the first fault.
use Rattle.std.specs.Prelude.{◌≡◌, ℕ, ◌+◌, cond, List, [], ◌∷◌, ◌++◌, length, take, drop, Some, None, Ok, Err, Option, Result, nat_lt, slice_index_or}
use Rattle.model.specs.declared.refusals.Refusal.{Refusal}
use Rattle.model.specs.declared.refusals.Refusal.TheVariants.{LineNotDue}
use Rattle.runs.specs.Days.{opening}
use Rattle.dayline.specs.Parts.{lines_of}
use Rattle.daytables.specs.Faults.{refusal_of}
use Rattle.daytables.specs.Rows.{Entry, naming}
use Rattle.daytables.specs.Tables.{Said, nothing, makes, names, posts, Came, takes, may_end}
use Rattle.daytables.specs.declared.due.Due.{Due}
use Rattle.daytables.specs.declared.due.Due.TheVariants.{FloorNames, LabelNames, PlaceNames}
use Rattle.daytables.specs.declared.faults.LineFault.{LineFault}
use Rattle.daytables.specs.declared.rows.FloorLine.{FloorLine}
use Rattle.dayfile.specs.Files.{place_at, fault_at, outcome}
use Rattle.dayfile.specs.declared.faults.DayFile.{DayFile}
use Rattle.dayfile.specs.declared.faults.DayFile.TheVariants.{Bridge, Hall}
use Rattle.dayfile.specs.declared.faults.Fault.{Fault}
use Rattle.dayfile.specs.declared.faults.Place.{Place}

-- what has been read
pub record Read : Type 0 where
  -- the settings of the bunkers
  pub bunkers : List FloorLine
  -- the labels of the points, by their numbers
  pub labels : List (List ℕ)
  -- what the lines ask of the sheet, and where each of these lines stands
  pub calls : List Entry
  pub places : List Place
  -- the fault at which reading ended
  pub fault : Option Fault

-- before the first line: the label `opening` is known
abbrev pub unread : Option Fault → Read
unread fault = record { bunkers = []; labels = opening ∷ []; calls = []; places = []; fault = fault }

-- one more line of the file is read
abbrev pub noted : Place → Said → Read → Read
noted at nothing r = r
noted at (makes b) r = record { bunkers = r.bunkers ++ b ∷ []; labels = r.labels; calls = r.calls; places = r.places; fault = r.fault }
noted at (names word) r =
    record { bunkers = r.bunkers; labels = r.labels ++ word ∷ []; calls = r.calls ++ naming word ∷ []; places = r.places ++ at ∷ []; fault = r.fault }
noted at (posts e) r = record { bunkers = r.bunkers; labels = r.labels; calls = r.calls ++ e ∷ []; places = r.places ++ at ∷ []; fault = r.fault }

-- reading ends at that line
abbrev pub refused : Place → Refusal → Read → Read
refused at why r = record { bunkers = r.bunkers; labels = r.labels; calls = r.calls; places = r.places; fault = Some (fault_at at why) }

-- a line that is read, and what comes after it; or a fault
abbrev pub line_read : Place → Read → (Came → Read) → Result Came LineFault → Read
line_read at r next (Ok came) = next came
line_read at r next (Err why) = refused at (refusal_of why) r

-- the lines of a file from line n on, where something is due
unfoldable pub read_from : DayFile → Due → ℕ → List (List ℕ) → Read → Read
read_from file due n [] r = cond (may_end due) r (refused (place_at file n) LineNotDue r)
read_from file due n (l ∷ ls) r =
    line_read (place_at file n) r (λ came. read_from file came.next (n + 1) ls (noted (place_at file n) came.said r)) (takes due r.labels l)

-- after the first fault nothing more is read
abbrev pub unless_fault : Option Fault → Read → Read → Read
unless_fault None r further = further
unless_fault (Some fault) r further = r

abbrev pub go_on : Read → (Read → Read) → Read
go_on r next = unless_fault r.fault r (next r)

-- the floor table of hall.day, all of bridge.day, and then the place table
unfoldable pub read_lines : (bridge hall : List (List ℕ)) → Read
read_lines bridge hall =
    go_on (go_on (read_from Hall FloorNames 1 (take 4 hall) (unread None)) (read_from Bridge LabelNames 1 bridge)) (read_from Hall PlaceNames (length (take 4 hall) + 1) (drop 4 hall))

-- both files as a whole come first
abbrev pub if_readable : Result Unit Fault → Read → Read
if_readable (Ok x) read = read
if_readable (Err fault) read = unread (Some fault)

abbrev pub reads : (bridge hall : List ℕ) → Read
reads bridge hall = if_readable (outcome (Some bridge) (Some hall)) (read_lines (lines_of bridge) (lines_of hall))

-- what every reading of a day keeps: each call has its place, and without a fault there are two bunkers
pub record Sound (r : Read) : Type 0 where
  pub placed : length r.places ≡ length r.calls
  pub two : r.fault ≡ None → length r.bunkers ≡ 2

-- ---- the first fault of a day

-- the settings of a bunker are refused when it is made, and a call when it is made on the sheet: all of these lines were read before the reading ended
abbrev pub first_fault : Read → (first second : Option Refusal) → (call : Option (ℕ × Refusal)) → Option Fault
first_fault r (Some why) second call = Some (fault_at (place_at Hall 2) why)
first_fault r None (Some why) call = Some (fault_at (place_at Hall 3) why)
first_fault r None None (Some w) = cond (nat_lt w.0 (length r.places)) (Some (fault_at (slice_index_or r.places w.0 (place_at Bridge 0)) w.1)) r.fault
first_fault r None None None = r.fault
