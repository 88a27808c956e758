-- The day that a sheet stands for, what it shows of it, and how its calls end.
use Rattle.std.specs.Prelude.{◌≡◌, ℕ, cond, Bool, not, ◌&&◌, ◌⊎◌, List, length, map, pos, neg_ℤ, is_some, Some, None, Ok, Err, vec_items, Option, Result, ◌==◌, int_le, nat_lt}
use Rattle.std.specs.Borrow.{Bor}
use Rattle.model.specs.Labels.{text_of}
use Rattle.model.specs.Meanings.{Meaning}
use Rattle.model.specs.Uses.{Uses}
use Rattle.model.specs.declared.refusals.Refusal.{Refusal}
use Rattle.model.specs.declared.refusals.Refusal.TheVariants.{BadSlipNumber, NoPoint, SamePoint, BadDistance, NumberStands, SlipsFull}
use Rattle.model.specs.declared.slips.Distance.{Distance}
use Rattle.model.specs.declared.slips.Use.{Use}
use Rattle.register.specs.Numbers.{is_number}
use Rattle.register.specs.Standing.{stands}
use Rattle.register.specs.declared.registers.NoInsert.{NoInsert}
use Rattle.register.specs.declared.registers.NoInsert.TheVariants.{OutOfRange, Stands, Full}
use Rattle.runs.specs.Days.{Day, Takes, first, refusal, step}
use Rattle.runs.specs.Shown.{Shown}
use Rattle.runs.specs.declared.calls.Call.{Call}
use Rattle.sheet.specs.declared.sheets.Sheet.{Sheet}
use Rattle.sheet.specs.declared.sheets.Shown.TheVariants.{Nothing, NoPlan, Bounds}
use Rattle.sheet.specs.declared.sheets.Shown.{Shown as Held}
use Rattle.tables.specs.Views.{table_view}
use Rattle.tables.specs.declared.tables.Table.{Table}

-- the labels of the points, by their numbers
abbrev pub labels_of : {L : Type 0} → Sheet L → List (List ℕ)
labels_of x = map text_of (vec_items x.labels)

-- how many points there are
abbrev pub points_of : {L : Type 0} → Sheet L → ℕ
points_of x = length (labels_of x)

-- by what the limits' settings and standing uses are
abbrev pub day_of : {L S : Type 0} → (L → S) → (L → Uses) → Sheet L → Day S
day_of settings uses x = record { horizon = x.horizon; labels = labels_of x; slips = stands x.slips; settings = settings x.limits; uses = uses x.limits }

-- what limits of the type L tell of themselves
abbrev pub Limits : Type 0 → Type 0 → Type 1
Limits L S = record { settings : L → S; uses : L → Uses; width : S → ℕ; meaning : S → Uses → Meaning; most : S → ℕ → ℕ; form : S → ℕ → Use → Bool }

-- the day, as the limits tell it
abbrev pub sheet_day : {L S : Type 0} → Limits L S → Sheet L → Day S
sheet_day limits x = day_of limits.settings limits.uses x

-- which uses the limits take
abbrev pub takes_of : {L S : Type 0} → Limits L S → Takes S
takes_of limits = record { width = limits.width; most = limits.most; form = limits.form }

abbrev pub seen : Held → Shown
seen Nothing = Shown.nothing
seen NoPlan = Shown.no_plan
seen (Bounds t any) = Shown.bounds (table_view t) any

abbrev pub shown_of : {L : Type 0} → Sheet L → Shown
shown_of x = seen x.shown

-- the table that is shown, or why there is none to read
abbrev pub TableRead : Shown → Result (Bor Table) Refusal → Type 0
TableRead shown (Ok t) = (any : Bool) × (shown ≡ Shown.bounds (table_view t.now) any)
TableRead shown (Err why) = ((why ≡ Refusal.NotTightened) × (shown ≡ Shown.nothing)) ⊎ ((why ≡ Refusal.NoPlan) × (shown ≡ Shown.no_plan))

-- the answer of a call that gives v where it is not refused
abbrev pub answer_with : {X : Type 0} → X → Option Refusal → Result X Refusal
answer_with v None = Ok v
answer_with v (Some why) = Err why

-- A call that changes the sheet: the first refusal that applies is its answer, and changes nothing; accepted, it makes of the day
-- what the call says, and the sheet is not tightened.
pub record Changed {S X : Type 0} (takes : Takes S) (d : Day S) (before : Shown) (c : Call) (v : X) (r : Result X Refusal) (e : Day S) (now-shown : Shown) : Type 0 where
  pub answer : r ≡ answer_with v (refusal takes d c)
  pub day : e ≡ step takes d c
  pub shows : now-shown ≡ cond (is_some (refusal takes d c)) before Shown.nothing

-- a call on a sheet over limits changes it so
abbrev pub Changes : {L S X : Type 0} → Limits L S → (before : Sheet L) → Call → X → Result X Refusal → (after : Sheet L) → Type 0
Changes limits x c v r y = Changed (takes_of limits) (sheet_day limits x) (shown_of x) c v r (sheet_day limits y) (shown_of y)

-- ---- the checks of a posting that look at the record alone, among n points in a day of h minutes

abbrev pub or_else : Option Refusal → Option Refusal → Option Refusal
or_else None others = others
or_else (Some why) others = Some why

abbrev pub bad_ends : ℕ → ℕ → (from to : ℕ) → Option Refusal
bad_ends n k from to = first (not (is_number k)) BadSlipNumber (first (not (nat_lt from n && nat_lt to n)) NoPoint None)

abbrev pub bad_distance : ℕ → ℕ → ℕ → Distance → Option Refusal
bad_distance n h k s =
    first (not (is_number k)) BadSlipNumber
    (first (not (nat_lt s.from n && nat_lt s.to n)) NoPoint
    (first (s.from == s.to) SamePoint
    (first (not (int_le (neg_ℤ (pos h)) s.minutes && int_le s.minutes (pos h))) BadDistance None)))

-- why a register does not take a distance slip
abbrev pub slip_refusal : NoInsert → Refusal
slip_refusal OutOfRange = BadSlipNumber
slip_refusal Stands = NumberStands
slip_refusal Full = SlipsFull
