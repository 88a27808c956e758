-- The first fault, where a bunker is not made.
use Rattle.std.proofs.Common.{◌≡◌, ℕ, ◌<◌, false, ◌&&◌, is_some, Some, None, Ok, Err, Option, Result, sym, ap, ◌∙◌, arith}
use Rattle.std.specs.List.{slice_get}
use Rattle.std.specs.Option.{option_flatten}
use Rattle.std.specs.Result.{result_err, is_ok}
use Rattle.bunker_laws.specs.declared.settings.Settings.{Settings}
use Rattle.dayfile.specs.Reading.{Read}
use Rattle.daytables.specs.declared.rows.FloorLine.{FloorLine}
use Rattle.model.specs.declared.refusals.Refusal.{Refusal}
use Rattle.planning.specs.Plans.{not_made_of, BunkerOf, Unmade, missing, improper, FirstFault, UnmadeFault}
use Rattle.planning.specs.declared.faults.NotPlanned.{NotPlanned}

-- what refuses the bunker of a line
refused_by : (line : Option FloorLine) (made : Result Settings (Option Refusal)) → BunkerOf line made → option_flatten (result_err made) ≡ not_made_of line
refused_by line (Ok s) (b, e, of, none) = sym (ap not_made_of e ∙ none)
refused_by line (Err None) gone = sym (ap not_made_of gone)
refused_by line (Err (Some why)) is = sym is

-- a bunker that is not made has no line, or is refused
unmade_of : (r : Read) (i : ℕ) → i < 2 → (why : Option Refusal) → BunkerOf (slice_get r.bunkers i) (Err why) → Unmade r
unmade_of r i lt None gone = missing i lt gone
unmade_of r i lt (Some why) is = improper i lt (ap is_some is)

-- the first fault, where the bunkers are not both made
pub unmade_end : (r : Read) (first second : Result Settings (Option Refusal)) → BunkerOf (slice_get r.bunkers 0) first → BunkerOf (slice_get r.bunkers 1) second → is_ok first && is_ok second ≡ false → (a b : Option Refusal) → a ≡ option_flatten (result_err first) → b ≡ option_flatten (result_err second) → (e : NotPlanned) → FirstFault r a b e → UnmadeFault r e
unmade_end r first second left right unmade a b from to e f = record {
  unmade = by first second left right unmade;
  first = rw (sym (from ∙ refused_by _ first left), sym (to ∙ refused_by _ second right)) f;
}
  where
    by : (first second : Result Settings (Option Refusal)) → BunkerOf (slice_get r.bunkers 0) first → BunkerOf (slice_get r.bunkers 1) second → is_ok first && is_ok second ≡ false → Unmade r
    by (Ok s) (Ok t) left right none = absurd (grind arith)
    by (Ok s) (Err why) left right none = unmade_of r 1 (omega arith) why right
    by (Err why) second left right none = unmade_of r 0 (omega arith) why left
