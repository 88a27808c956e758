-- Which sheets are ruled.
use Rattle.std.specs.Prelude.{◌≡◌, ℕ, ◌≤◌, ◌⊎◌, [], ◌∷◌, map, vec_items, vec_len, vec_capacity, Result, Vec, MatchResult}
use Rattle.std.specs.declared.alloc.Global.{Global}
use Rattle.model.specs.Labels.{text_of}
use Rattle.model.specs.Uses.{Uses}
use Rattle.model.specs.declared.labels.Label.{Label}
use Rattle.model.specs.declared.refusals.Refusal.{Refusal}
use Rattle.model.specs.declared.refusals.Refusal.TheVariants.{BadHorizon, UsesStand, OutOfMemory}
use Rattle.rules.specs.Calls.{AnyUse}
use Rattle.runs.specs.Days.{Day, opening, ruled}
use Rattle.sheet.specs.Sheets.{Limits}
use Rattle.sheet.specs.declared.sheets.ruling.NotRuled.{NotRuled}

-- a horizon that a sheet can have
abbrev pub InDay : ℕ → Type 0
InDay h = (1 ≤ h) × (h ≤ 10080)

-- why no sheet is ruled, the first cause that applies
abbrev pub NotRuledFor : ℕ → Uses → Refusal → Type 0
NotRuledFor h us why =
    ((why ≡ BadHorizon) × (InDay h → ⊥))
    ⊎ (((why ≡ UsesStand) × InDay h × AnyUse us)
    ⊎ ((why ≡ OutOfMemory) × InDay h × (AnyUse us → ⊥)))

-- the limits are handed back as they were, with the first cause
abbrev pub NotRuledOver : {L S : Type 0} → Limits L S → ℕ → L → NotRuled L → Type 0
NotRuledOver limits h x e = (e.limits ≡ x) × NotRuledFor h (limits.uses x) e.refusal

-- the day of a sheet that is newly ruled for h minutes
abbrev pub ruled_day : {L S : Type 0} → Limits L S → ℕ → L → Day S
ruled_day limits h x = ruled h (limits.settings x) (limits.uses x)

-- point 0 alone, labelled `opening`, and room for 64 points; or want of memory
abbrev pub FirstLabels : Result (Vec Label Global) Refusal → Type 0
FirstLabels r = MatchResult r (λ v. (map text_of (vec_items v) ≡ opening ∷ []) × (vec_len v ≡ 1) × (64 ≤ vec_capacity v)) (λ e. e ≡ OutOfMemory)
