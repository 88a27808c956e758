-- What a sheet shows once it is tightened, and what it answers to looks.
use Rattle.std.specs.Prelude.{◌≡◌, ℕ, ◌/◌, ◌%◌, ◌^◌, ◌<◌, Bool, true, false, cond, ◌&&◌, ℤ, pos, ◌+ℤ◌, Ok, Err, Decides, Option, Result, count_ones, int_lt, nat_le, nat_lt}
use Rattle.model.specs.Closed.{NoneClosed, Tightened}
use Rattle.model.specs.Limits.{places_of}
use Rattle.model.specs.Meanings.{Meaning}
use Rattle.model.specs.Plans.{View}
use Rattle.model.specs.Uses.{Uses}
use Rattle.model.specs.declared.moments.Moment.{Moment}
use Rattle.model.specs.declared.moments.Moment.TheVariants.{Point, Minute}
use Rattle.model.specs.declared.refusals.Refusal.{Refusal}
use Rattle.model.specs.declared.refusals.Refusal.TheVariants.{NoPlace, NoPoint, NotTightened, NoPlan, BadMinute}
use Rattle.model.specs.declared.verdicts.Verdict.{Verdict}
use Rattle.model.specs.declared.verdicts.Verdict.TheVariants.{Open, AnyPlan}
use Rattle.runs.specs.Days.{Day, points}
use Rattle.runs.specs.declared.answers.Answer.{Answer}

pub data Shown : Type 0 where
  -- not tightened since ruling or the last change
  nothing : Shown
  -- tightened, and no table is closed
  no_plan : Shown
  -- the tightened table, and whether every limit vouches for it
  bounds : View → Bool → Shown

-- what the limits mean, by their settings and standing uses
abbrev pub Means : Type 0 → Type 1
Means S = S → Uses → Meaning

module _ {S : Type 0} (means : Means S) (d : Day S) where
  abbrev pub NoneClosedOn : Type 0
  NoneClosedOn = NoneClosed d.horizon (points d) d.slips (means d.settings d.uses)

  abbrev pub TightenedOn : View → Type 0
  TightenedOn m = Tightened d.horizon (points d) d.slips (means d.settings d.uses) m

  -- what is shown is what tightening the day gives
  abbrev pub Shows : Shown → Type 0
  Shows Shown.nothing = ⊥
  Shows Shown.no_plan = NoneClosedOn
  Shows (Shown.bounds m any) = TightenedOn m × Decides any ((means d.settings d.uses).vouches m)

abbrev pub verdict_of : Bool → Verdict
verdict_of true = AnyPlan
verdict_of false = Open

abbrev pub loose : View → ℕ → Bool
loose m p = int_lt (pos 0) (m.at 0 p +ℤ m.at p 0)

-- bit p of w, for each p below n, is one exactly if p is loose, and no other bit is
pub record LooseWord (m : View) (n w : ℕ) : Type 0 where
  pub short : w < 2 ^ n
  pub bits : (p : ℕ) → p < n → w / 2 ^ p % 2 ≡ cond (loose m p) 1 0

-- the answer of tightening a sheet of n points
abbrev pub Answers : ℕ → Shown → Answer → Type 0
Answers n Shown.nothing a = ⊥
Answers n Shown.no_plan a = (a.verdict ≡ Verdict.NoPlan) × (a.loose ≡ 0) × (a.count ≡ 0)
Answers n (Shown.bounds m any) a = (a.verdict ≡ verdict_of any) × LooseWord m n a.loose × (a.count ≡ count_ones a.loose)

-- ---- looks

-- what is read off the table, where one is shown
abbrev pub read_off : {X : Type 0} → Shown → (View → Result X Refusal) → Result X Refusal
read_off Shown.nothing f = Err NotTightened
read_off Shown.no_plan f = Err NoPlan
read_off (Shown.bounds m any) f = f m

-- the answer of tightening, told again; refused where nothing is shown
abbrev pub LookAnswer : ℕ → Shown → Result Answer Refusal → Type 0
LookAnswer n shown (Ok a) = Answers n shown a
LookAnswer n shown (Err why) = (shown ≡ Shown.nothing) × (why ≡ NotTightened)

-- the bound from i to j
abbrev pub look_bound : ℕ → Shown → ℕ → ℕ → Result ℤ Refusal
look_bound n shown i j = cond (nat_lt i n && nat_lt j n) (read_off shown (λ m. Ok (m.at i j))) (Err NoPoint)

abbrev pub is_point : ℕ → Moment → Bool
is_point n (Point p) = nat_lt p n
is_point n (Minute k) = true

abbrev pub in_day : ℕ → Moment → Bool
in_day h (Point p) = true
in_day h (Minute k) = nat_le k h

-- the highest and the lowest level of a place at a moment
abbrev pub look_levels : {S : Type 0} → (S → ℕ) → Means S → Day S → Shown → ℕ → Moment → Result (Option (ℤ × ℤ)) Refusal
look_levels width means d shown place x =
    cond (nat_lt place (places_of (width d.settings)))
    (cond (is_point (points d) x)
    (read_off shown (λ m. cond (in_day d.horizon x) (Ok ((means d.settings d.uses).levels m place x)) (Err BadMinute)))
    (Err NoPoint))
    (Err NoPlace)
