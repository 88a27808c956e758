-- What is planned from two day files.
use Rattle.std.specs.Prelude.{◌≡◌, ℕ, ◌<◌, Bool, true, cond, ◌&&◌, ◌⊎◌, List, [], ◌∷◌, ◌++◌, map, pos, is_some, Some, None, Ok, Err, Option, Result, int_le}
use Rattle.std.specs.List.{slice_get}
use Rattle.bunker_laws.specs.declared.settings.Settings.{Settings}
use Rattle.dayfile.specs.Reading.{Read, reads, first_fault}
use Rattle.dayfile.specs.declared.faults.Fault.{Fault}
use Rattle.daytables.specs.Rows.{entry_of}
use Rattle.daytables.specs.declared.rows.FloorLine.{FloorLine}
use Rattle.model.specs.Uses.{none}
use Rattle.model.specs.declared.refusals.Refusal.{Refusal}
use Rattle.model.specs.declared.refusals.Refusal.TheVariants.{BadSettings, OutOfMemory, BufferShort}
use Rattle.output.specs.Written.{Wrote}
use Rattle.runs.specs.Days.{Day, ruled, after}
use Rattle.runs.specs.Promise.{Promise}
use Rattle.runs.specs.Shown.{Shown, Shows}
use Rattle.runs.specs.declared.calls.Call.{Call}
use Rattle.runs.specs.declared.calls.Call.TheVariants.{Tighten}
use Rattle.sheet.specs.Replies.{FirstRefused}
use Rattle.sheet.specs.Sheets.{day_of, shown_of}
use Rattle.sheet.specs.declared.running.Played.{Played}
use Rattle.yard.specs.Yards.{Limits, LimitSettings, Alike, settings_of, uses_of, takes, means}
use Rattle.planning.specs.declared.faults.NotPlanned.{NotPlanned}
use Rattle.planning.specs.declared.faults.NotPlanned.TheVariants as cause

-- ---- the bunkers

-- settings that a bunker can have
abbrev pub proper : FloorLine → Bool
proper b = int_le (pos 0) b.floor && (int_le b.floor b.start && (int_le b.start b.roof && int_le b.roof (pos 100000000)))

-- why no bunker is made of a line's settings
abbrev pub not_made : FloorLine → Option Refusal
not_made b = cond (proper b) None (Some BadSettings)

-- nothing where there is no such line
abbrev pub not_made_of : Option FloorLine → Option Refusal
not_made_of None = None
not_made_of (Some b) = not_made b

-- the settings of a line
pub record OfLine (b : FloorLine) (s : Settings) : Type 0 where
  pub floor : s.floor ≡ b.floor
  pub roof : s.roof ≡ b.roof
  pub start : s.start ≡ b.start

-- the settings of the bunker of a line; otherwise why none is made of it, and nothing where there is no line
abbrev pub BunkerOf : Option FloorLine → Result Settings (Option Refusal) → Type 0
BunkerOf line (Ok s) = (b : FloorLine) × (line ≡ Some b) × OfLine b s × (not_made b ≡ None)
BunkerOf line (Err None) = line ≡ None
BunkerOf line (Err (Some why)) = not_made_of line ≡ Some why

-- the bunkers of both value lines
pub record Made (r : Read) (both : Settings × Settings) : Type 0 where
  pub first : FloorLine
  pub second : FloorLine
  pub first_line : slice_get r.bunkers 0 ≡ Some first
  pub second_line : slice_get r.bunkers 1 ≡ Some second
  pub left : OfLine first both.0
  pub right : OfLine second both.1

-- one of the two lines is not there, or no bunker is made of it
pub data Unmade (r : Read) : Type 0 where
  missing : (i : ℕ) → i < 2 → slice_get r.bunkers i ≡ None → Unmade r
  improper : (i : ℕ) → i < 2 → is_some (not_made_of (slice_get r.bunkers i)) ≡ true → Unmade r

-- the first fault, if these refuse the bunkers
pub record FirstFault (r : Read) (first second : Option Refusal) (e : NotPlanned) : Type 0 where
  pub fault : Fault
  pub is : e ≡ cause.Fault fault
  pub found : first_fault r first second None ≡ Some fault

-- so it is where a bunker is not made
pub record UnmadeFault (r : Read) (e : NotPlanned) : Type 0 where
  pub unmade : Unmade r
  pub first : FirstFault r (not_made_of (slice_get r.bunkers 0)) (not_made_of (slice_get r.bunkers 1)) e

-- ---- the sheet

-- the day as it is ruled: 1,440 minutes, and no use stands
abbrev pub morning : LimitSettings → Day LimitSettings
morning s = ruled 1440 s none

-- a sheet over two bunkers of these settings and a weighbridge, on which the calls were made
pub record PlayedFor (first second : Settings) (calls : List Call) (x : Played Limits) : Type 0 where
  pub settings : LimitSettings
  pub left : Alike first settings.0
  pub right : Alike second settings.1.0
  pub day : day_of settings_of uses_of x.sheet ≡ after takes (morning settings) calls
  pub promise : Promise takes means 1440 settings none calls (shown_of x.sheet)
  pub refused : FirstRefused takes (morning settings) calls x.told.refused

-- ---- the answer

-- The day that a reading stands for, with its sheet ruled, the calls of the lines made on it and then a tightening.
pub record Planned (r : Read) : Type 0 where
  pub settings : LimitSettings
  pub made : Made r (settings.0, settings.1.0)
  pub calls : List Call
  pub read : map entry_of calls ≡ r.calls

abbrev pub all_calls : {r : Read} → Planned r → List Call
all_calls d = d.calls ++ Tighten ∷ []

abbrev pub evening : {r : Read} → Planned r → Day LimitSettings
evening d = after takes (morning d.settings) (all_calls d)

-- Nothing is wrong, and no call was refused: the sheet shows what tightening the day gives, and keeps the promise over runs.
pub record Answered (r : Read) (d : Planned r) (shown : Shown) : Type 0 where
  pub whole : r.fault ≡ None
  pub accepted : FirstRefused takes (morning d.settings) (all_calls d) None
  pub shows : Shows means (evening d) shown
  pub promise : Promise takes means 1440 d.settings none (all_calls d) shown

-- The first fault: of the files, a line or a field, of a bunker's settings, or of a call that the sheet refuses.
pub data Faulty (r : Read) (fault : Fault) : Type 0 where
  -- a bunker is not made, so no call is
  unmade : Unmade r → first_fault r (not_made_of (slice_get r.bunkers 0)) (not_made_of (slice_get r.bunkers 1)) None ≡ Some fault → Faulty r fault
  -- else the first call that is refused, or what ended the reading
  refused : (d : Planned r) (call : Option (ℕ × Refusal)) → FirstRefused takes (morning d.settings) (all_calls d) call → first_fault r None None call ≡ Some fault → Faulty r fault

-- what comes of a reading and a buffer
abbrev pub PlansFor : Read → (before after : List ℕ) → Result ℕ NotPlanned → Type 0
PlansFor r before after (Ok n) = (d : Planned r) × (shown : Shown) × Answered r d shown × Wrote (evening d).labels shown before after (Ok n)
PlansFor r before after (Err (cause.Fault fault)) = (after ≡ before) × Faulty r fault
PlansFor r before after (Err (cause.Refused why)) =
    (after ≡ before)
    × ((why ≡ OutOfMemory)
    ⊎ ((d : Planned r) × (shown : Shown) × Answered r d shown × (why ≡ BufferShort) × Wrote (evening d).labels shown before after (Err why)))

-- and of two files
abbrev pub Plans : (bridge hall : List ℕ) → (before after : List ℕ) → Result ℕ NotPlanned → Type 0
Plans bridge hall before after r = PlansFor (reads bridge hall) before after r
