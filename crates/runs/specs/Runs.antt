-- Runs: what stands after a list of calls, told by the calls themselves.
use Rattle.std.specs.Prelude.{◌≡◌, ℕ, ◌<◌, Bool, true, false, List, length, take, None, slice_index_or}
use Rattle.model.specs.declared.slips.Distance.{Distance}
use Rattle.model.specs.declared.slips.Use.{Use}
use Rattle.runs.specs.Days.{Day, Takes, refusal, after}
use Rattle.runs.specs.declared.calls.Call.{Call}
use Rattle.runs.specs.declared.calls.Call.TheVariants.{Name, PostDistance, PostUse, WithdrawDistance, WithdrawUse, Tighten, LookBound, LookLevels}

-- the calls that change a sheet where they are accepted
abbrev pub changes : Call → Bool
changes (Name text) = true
changes (PostDistance k s) = true
changes (PostUse place k u) = true
changes (WithdrawDistance k) = true
changes (WithdrawUse place k) = true
changes Tighten = false
changes (LookBound i j) = false
changes (LookLevels place x) = false

-- a list of calls on a day of limits that take uses so
module _ {S : Type 0} (takes : Takes S) (d : Day S) (calls : List Call) where
  -- the call at place i of the list is c
  abbrev pub At : ℕ → Call → Type 0
  At i c = (i < length calls) × (slice_index_or calls i Tighten ≡ c)

  -- no refusal applies to it after the calls before it
  abbrev pub Accepted : ℕ → Type 0
  Accepted i = refusal takes (after takes d (take i calls)) (slice_index_or calls i Tighten) ≡ None

  -- the slip's posting was accepted, and no accepted withdrawal of it followed
  pub record SlipStands (k : ℕ) (s : Distance) : Type 0 where
    pub place : ℕ
    pub posted : At place (PostDistance k s)
    pub accepted : Accepted place
    pub kept : (j : ℕ) → place < j → At j (WithdrawDistance k) → Accepted j → ⊥

  pub record UseStands (at k : ℕ) (u : Use) : Type 0 where
    pub place : ℕ
    pub posted : At place (PostUse at k u)
    pub accepted : Accepted place
    pub kept : (j : ℕ) → place < j → At j (WithdrawUse at k) → Accepted j → ⊥

  -- a tightening has come that no accepted change followed
  pub record Settled : Type 0 where
    pub place : ℕ
    pub tightened : At place Tighten
    pub quiet : (j : ℕ) → place < j → j < length calls → changes (slice_index_or calls j Tighten) ≡ true → Accepted j → ⊥
