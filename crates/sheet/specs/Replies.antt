-- What a call on a sheet answers, and what it leaves.
use Rattle.std.specs.Prelude.{◌≡◌, ℕ, ◌<◌, cond, List, length, take, is_some, Some, None, Ok, Err, Option, slice_index_or}
use Rattle.model.specs.declared.refusals.Refusal.{Refusal}
use Rattle.promise_laws.specs.Held.{UsesHeld}
use Rattle.runs.specs.Days.{Day, Takes, points, refusal, step, after}
use Rattle.runs.specs.Shown.{Shown, Means, Shows, Answers, look_bound, look_levels}
use Rattle.runs.specs.declared.answers.Answer.{Answer}
use Rattle.runs.specs.declared.calls.Call.{Call}
use Rattle.runs.specs.declared.calls.Call.TheVariants.{Name, PostDistance, PostUse, WithdrawDistance, WithdrawUse, Tighten, LookBound, LookLevels}
use Rattle.sheet.specs.Sheets.{answer_with}
use Rattle.sheet.specs.declared.replies.Reply.{Reply}
use Rattle.sheet.specs.declared.replies.Reply.TheVariants.{Named, Changed, Tightened, Bound, Levels}

-- why a naming, a posting or a withdrawal was refused
abbrev pub refusal_of : Reply → Option Refusal
refusal_of (Named (Ok n)) = None
refusal_of (Named (Err why)) = Some why
refusal_of (Changed (Ok x)) = None
refusal_of (Changed (Err why)) = Some why
refusal_of (Tightened a) = None
refusal_of (Bound r) = None
refusal_of (Levels r) = None

-- what a tightening answered
abbrev pub answer_of : Reply → Option Answer
answer_of (Named r) = None
answer_of (Changed r) = None
answer_of (Tightened a) = Some a
answer_of (Bound r) = None
answer_of (Levels r) = None

module _ {S : Type 0} (takes : Takes S) (means : Means S) (d : Day S) where
  -- the answer of a call on a sheet that shows this, and shows that afterwards
  abbrev pub Replies : (before after : Shown) → Call → Reply → Type 0
  Replies shown then (Name text) r = r ≡ Named (answer_with (points d) (refusal takes d (Name text)))
  Replies shown then (PostDistance k s) r = r ≡ Changed (answer_with tt (refusal takes d (PostDistance k s)))
  Replies shown then (PostUse place k u) r = r ≡ Changed (answer_with tt (refusal takes d (PostUse place k u)))
  Replies shown then (WithdrawDistance k) r = r ≡ Changed (answer_with tt (refusal takes d (WithdrawDistance k)))
  Replies shown then (WithdrawUse place k) r = r ≡ Changed (answer_with tt (refusal takes d (WithdrawUse place k)))
  Replies shown then Tighten r = (a : Answer) × (r ≡ Tightened a) × Answers (points d) then a
  Replies shown then (LookBound i j) r = r ≡ Bound (look_bound (points d) shown i j)
  Replies shown then (LookLevels place x) r = r ≡ Levels (look_levels takes.width means d shown place x)

  -- what a sheet shows after a call
  abbrev pub ShowsThen : (before after : Shown) → Call → Type 0
  ShowsThen shown then (Name text) = then ≡ cond (is_some (refusal takes d (Name text))) shown Shown.nothing
  ShowsThen shown then (PostDistance k s) = then ≡ cond (is_some (refusal takes d (PostDistance k s))) shown Shown.nothing
  ShowsThen shown then (PostUse place k u) = then ≡ cond (is_some (refusal takes d (PostUse place k u))) shown Shown.nothing
  ShowsThen shown then (WithdrawDistance k) = then ≡ cond (is_some (refusal takes d (WithdrawDistance k))) shown Shown.nothing
  ShowsThen shown then (WithdrawUse place k) = then ≡ cond (is_some (refusal takes d (WithdrawUse place k))) shown Shown.nothing
  ShowsThen shown then Tighten = UsesHeld (points d) d.uses → Shows means d then
  ShowsThen shown then (LookBound i j) = then ≡ shown
  ShowsThen shown then (LookLevels place x) = then ≡ shown

  -- one call: its answer, the day after it, and what the sheet then shows
  pub record Applied (shown then : Shown) (c : Call) (r : Reply) (e : Day S) : Type 0 where
    pub reply : Replies shown then c r
    pub day : e ≡ step takes d c
    pub shows : ShowsThen shown then c

-- of the first n calls of a list, the first naming, posting or withdrawal that is refused, and why
abbrev pub FirstBefore : {S : Type 0} → Takes S → Day S → List Call → ℕ → Option (ℕ × Refusal) → Type 0
FirstBefore takes d calls n None = (i : ℕ) → i < n → refusal takes (after takes d (take i calls)) (slice_index_or calls i Tighten) ≡ None
FirstBefore takes d calls n (Some w) =
    (w.0 < n)
    × (refusal takes (after takes d (take w.0 calls)) (slice_index_or calls w.0 Tighten) ≡ Some w.1)
    × ((i : ℕ) → i < w.0 → refusal takes (after takes d (take i calls)) (slice_index_or calls i Tighten) ≡ None)

-- of all calls
abbrev pub FirstRefused : {S : Type 0} → Takes S → Day S → List Call → Option (ℕ × Refusal) → Type 0
FirstRefused takes d calls first = FirstBefore takes d calls (length calls) first

-- it is the answer of tightening a sheet of n points that shows this
abbrev pub AnsweredFor : ℕ → Shown → Option Answer → Type 0
AnsweredFor n shown None = ⊥
AnsweredFor n shown (Some a) = Answers n shown a
