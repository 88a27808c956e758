-- What stands on a sheet, which calls are accepted, and what an accepted call changes.
use Rattle.std.specs.Prelude.{ℕ, Bool, cond, not, ◌&&◌, List, [], ◌∷◌, ◌++◌, length, pos, neg_ℤ, is_some, Some, None, codes, Option, ◌==◌, int_le, nat_le, nat_lt}
use Rattle.std.specs.List.{list_any}
use Rattle.std.specs.Str.{bytes_eq}
use Rattle.model.specs.Closed.{Slips}
use Rattle.model.specs.Labels.{is_label}
use Rattle.model.specs.Limits.{places_of, not_taken, not_given_up}
use Rattle.model.specs.Uses.{Uses, put, standing}
use Rattle.model.specs.declared.refusals.Refusal.{Refusal}
use Rattle.model.specs.declared.refusals.Refusal.TheVariants.{BadLabel, LabelTaken, PointsFull, NoPlace, BadSlipNumber, NoPoint, SamePoint, BadDistance, NumberStands, SlipsFull, NotStanding}
use Rattle.model.specs.declared.slips.Distance.{Distance}
use Rattle.model.specs.declared.slips.Use.{Use}
use Rattle.register.specs.Lookups.{put_at}
use Rattle.register.specs.Numbers.{is_number}
use Rattle.runs.specs.declared.calls.Call.{Call}
use Rattle.runs.specs.declared.calls.Call.TheVariants.{Name, PostDistance, PostUse, WithdrawDistance, WithdrawUse, Tighten, LookBound, LookLevels}

-- a day, over limits with settings of the type S
pub record Day (S : Type 0) : Type 0 where
  pub horizon : ℕ
  -- the labels of the points, by their numbers
  pub labels : List (List ℕ)
  -- the standing distance slips, by their numbers
  pub slips : Slips
  pub settings : S
  -- the standing uses, by place and number
  pub uses : Uses

-- which uses limits of such settings take: their places, each place's most uses, and the form of its uses
pub record Takes (S : Type 0) : Type 0 where
  pub width : S → ℕ
  pub most : S → ℕ → ℕ
  pub form : S → ℕ → Use → Bool

abbrev pub points : {S : Type 0} → Day S → ℕ
points d = length d.labels

-- the label `opening`
abbrev pub opening : List ℕ
opening = codes "opening"

-- newly ruled: point 0 alone, and no slip stands
abbrev pub ruled : {S : Type 0} → ℕ → S → Uses → Day S
ruled h s us = record { horizon = h; labels = opening ∷ []; slips = λ k. None; settings = s; uses = us }

-- the first cause that applies
abbrev pub first : Bool → Refusal → Option Refusal → Option Refusal
first applies why others = cond applies (Some why) others

abbrev pub in_use : List ℕ → List (List ℕ) → Bool
in_use text labels = list_any (λ l. bytes_eq l text) labels

module _ {S : Type 0} (takes : Takes S) (d : Day S) where
  -- ---- why a call is refused

  abbrev pub not_named : List ℕ → Option Refusal
  not_named text = first (not (is_label text)) BadLabel (first (in_use text d.labels) LabelTaken (first (nat_le 64 (points d)) PointsFull None))

  abbrev pub not_posted : ℕ → Distance → Option Refusal
  not_posted k s =
      first (not (is_number k)) BadSlipNumber
      (first (not (nat_lt s.from (points d) && nat_lt s.to (points d))) NoPoint
      (first (s.from == s.to) SamePoint
      (first (not (int_le (neg_ℤ (pos d.horizon)) s.minutes && int_le s.minutes (pos d.horizon))) BadDistance
      (first (is_some (d.slips k)) NumberStands
      (first (nat_le 256 (length (standing d.slips))) SlipsFull None)))))

  abbrev pub not_used : ℕ → ℕ → Use → Option Refusal
  not_used place k u =
      first (not (nat_lt place (places_of (takes.width d.settings)))) NoPlace
      (first (not (is_number k)) BadSlipNumber
      (first (not (nat_lt u.first (points d) && nat_lt u.last (points d))) NoPoint
      (not_taken (takes.width d.settings) (takes.most d.settings) (takes.form d.settings) d.uses place k u)))

  abbrev pub not_withdrawn : ℕ → Option Refusal
  not_withdrawn k = first (not (is_some (d.slips k))) NotStanding None

  abbrev pub not_freed : ℕ → ℕ → Option Refusal
  not_freed place k = not_given_up (takes.width d.settings) d.uses place k

  -- why a call that would change the day is refused; the others change nothing, whatever they answer
  abbrev pub refusal : Call → Option Refusal
  refusal (Name text) = not_named text.now
  refusal (PostDistance k s) = not_posted k s
  refusal (PostUse place k u) = not_used place k u
  refusal (WithdrawDistance k) = not_withdrawn k
  refusal (WithdrawUse place k) = not_freed place k
  refusal Tighten = None
  refusal (LookBound i j) = None
  refusal (LookLevels place x) = None

  -- ---- what an accepted call changes

  abbrev pub changed : Call → Day S
  changed (Name text) = record { horizon = d.horizon; labels = d.labels ++ text.now ∷ []; slips = d.slips; settings = d.settings; uses = d.uses }
  changed (PostDistance k s) = record { horizon = d.horizon; labels = d.labels; slips = put_at d.slips k (Some s); settings = d.settings; uses = d.uses }
  changed (PostUse place k u) = record { horizon = d.horizon; labels = d.labels; slips = d.slips; settings = d.settings; uses = put d.uses place k (Some u) }
  changed (WithdrawDistance k) = record { horizon = d.horizon; labels = d.labels; slips = put_at d.slips k None; settings = d.settings; uses = d.uses }
  changed (WithdrawUse place k) = record { horizon = d.horizon; labels = d.labels; slips = d.slips; settings = d.settings; uses = put d.uses place k None }
  changed Tighten = d
  changed (LookBound i j) = d
  changed (LookLevels place x) = d

  -- the day after a call: a refused call changes nothing
  abbrev pub step : Call → Day S
  step c = cond (is_some (refusal c)) d (changed c)

-- the day after a list of calls
abbrev pub after : {S : Type 0} → Takes S → Day S → List Call → Day S
after takes d [] = d
after takes d (c ∷ cs) = after takes (step takes d c) cs
