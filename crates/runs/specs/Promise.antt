-- What a sheet promises over runs.
use Rattle.std.specs.Prelude.{◌≡◌, ℕ, Bool, List, length, Some}
use Rattle.model.specs.Closed.{Closed, Obeys}
use Rattle.model.specs.Plans.{Plan, PlanOf, View, Meets, Tighter}
use Rattle.model.specs.Uses.{Uses}
use Rattle.model.specs.declared.moments.Moment.{Moment}
use Rattle.model.specs.declared.slips.Distance.{Distance}
use Rattle.model.specs.declared.slips.Use.{Use}
use Rattle.model.specs.declared.verdicts.Verdict.TheVariants.{NoPlan, AnyPlan}
use Rattle.runs.specs.Days.{Day, Takes, points, ruled, after}
use Rattle.runs.specs.Runs.{SlipStands, UseStands, Settled}
use Rattle.runs.specs.Shown.{Shown, Means, Shows, Answers, look_bound, look_levels}
use Rattle.runs.specs.declared.answers.Answer.{Answer}
use Rattle.runs.specs.declared.calls.Call.{Call}

module _ {S : Type 0} (means : Means S) (d : Day S) where
  -- the plan meets every standing distance slip, and every limit allows it
  abbrev pub ObeysDay : Plan → Type 0
  ObeysDay t = Obeys d.horizon (points d) d.slips (means d.settings d.uses) t

  abbrev pub AllowedOn : Plan → Type 0
  AllowedOn t = (means d.settings d.uses).allows t

  abbrev pub ClosedOn : View → Type 0
  ClosedOn m = Closed d.horizon (points d) d.slips (means d.settings d.uses) m

-- two days alike in horizon, number of points, settings of the limits, and standing slips
pub record Alike {S : Type 0} (d e : Day S) : Type 0 where
  pub horizon : e.horizon ≡ d.horizon
  pub points : length e.labels ≡ length d.labels
  pub settings : e.settings ≡ d.settings
  pub slips : (k : ℕ) → e.slips k ≡ d.slips k
  pub uses : (place k : ℕ) → e.uses place k ≡ d.uses place k

module _ {S : Type 0} (takes : Takes S) (means : Means S) where
  -- the promise of a sheet that is tightened on the day d and shows this
  pub record Kept (d : Day S) (shown : Shown) : Type 0 where
    -- "no plan" is shown exactly if no table is closed; then no plan obeys
    pub none : shown ≡ Shown.no_plan → (t : Plan) → ObeysDay means d t → ⊥
    pub none_closed : shown ≡ Shown.no_plan → (m : View) → ClosedOn means d m → ⊥
    -- else the bounds shown are a closed table, and no closed table exceeds them anywhere
    pub closed : (m : View) (any : Bool) → shown ≡ Shown.bounds m any → ClosedOn means d m
    pub greatest : (m : View) (any : Bool) → shown ≡ Shown.bounds m any → (k : View) → ClosedOn means d k → Tighter k m
    -- the plans that meet the bounds and that every limit allows are exactly those that obey
    pub exact : (m : View) (any : Bool) → shown ≡ Shown.bounds m any → (t : Plan) → PlanOf (points d) d.horizon t
        → (Meets t m × AllowedOn means d t → ObeysDay means d t) × (ObeysDay means d t → Meets t m × AllowedOn means d t)
    -- whatever tightening answers for what is shown:
    -- "any plan" means that all plans within the bounds obey
    pub any : (m : View) (all : Bool) (a : Answer) → shown ≡ Shown.bounds m all → Answers (points d) shown a → a.verdict ≡ AnyPlan → (t : Plan) → PlanOf (points d) d.horizon t → Meets t m → ObeysDay means d t
    -- the verdict is "no plan" exactly if that is shown, and "any plan" exactly if every limit vouches for the table
    pub verdict_none : (a : Answer) → Answers (points d) shown a → (a.verdict ≡ NoPlan → shown ≡ Shown.no_plan) × (shown ≡ Shown.no_plan → a.verdict ≡ NoPlan)
    pub verdict_any : (m : View) (all : Bool) (a : Answer) → shown ≡ Shown.bounds m all → Answers (points d) shown a → (a.verdict ≡ AnyPlan → (means d.settings d.uses).vouches m) × ((means d.settings d.uses).vouches m → a.verdict ≡ AnyPlan)
    -- bounds with no loose point bring "any plan"
    pub fixed : (m : View) (all : Bool) (a : Answer) → shown ≡ Shown.bounds m all → Answers (points d) shown a → a.count ≡ 0 → a.verdict ≡ AnyPlan
    -- a sheet that is tightened on a day alike gives the same answers, to tightening and to every look
    pub alike : (e : Day S) (other : Shown) → Alike d e → Shows means e other → other ≡ shown
    pub same_answer : (e : Day S) (other : Shown) (a b : Answer) → Alike d e → Shows means e other → Answers (points d) shown a → Answers (points e) other b → b ≡ a
    pub same_bound : (e : Day S) (other : Shown) (i j : ℕ) → Alike d e → Shows means e other → look_bound (points e) other i j ≡ look_bound (points d) shown i j
    pub same_levels : (e : Day S) (other : Shown) (place : ℕ) (x : Moment) → Alike d e → Shows means e other → look_levels takes.width means e other place x ≡ look_levels takes.width means d shown place x

  -- The promise over runs: of a sheet ruled for h minutes over limits of settings s in which no use stands, after a list of calls.
  pub record Promise (h : ℕ) (s : S) (us : Uses) (calls : List Call) (shown : Shown) : Type 0 where
    -- what stands is what the list says
    pub slips : (k : ℕ) (x : Distance) → ((after takes (ruled h s us) calls).slips k ≡ Some x → SlipStands takes (ruled h s us) calls k x) × (SlipStands takes (ruled h s us) calls k x → (after takes (ruled h s us) calls).slips k ≡ Some x)
    pub uses : (place k : ℕ) (u : Use) → ((after takes (ruled h s us) calls).uses place k ≡ Some u → UseStands takes (ruled h s us) calls place k u) × (UseStands takes (ruled h s us) calls place k u → (after takes (ruled h s us) calls).uses place k ≡ Some u)
    -- horizon and settings are those of the ruling
    pub horizon : (after takes (ruled h s us) calls).horizon ≡ h
    pub settings : (after takes (ruled h s us) calls).settings ≡ s
    -- a tightening that no accepted change followed: the sheet shows what tightening the day gives, and keeps its promise
    pub shows : Settled takes (ruled h s us) calls → Shows means (after takes (ruled h s us) calls) shown
    pub kept : Settled takes (ruled h s us) calls → Kept (after takes (ruled h s us) calls) shown
