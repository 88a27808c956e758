-- How a call that changes the sheet ends.
use Rattle.std.proofs.Common.{◌≡◌, ℕ, List, map, length, is_some, Some, None, Ok, Err, vec_items, vec_len, Option, Result, Vec, MatchResult, IsErrAnd, sym, refl, ap, ◌∙◌}
use Rattle.std.proofs.lemmas.Bool.{cond-true, cond-false}
use Rattle.std.proofs.lemmas.List.{length-map}
use Rattle.std.specs.declared.alloc.Global.{Global}
use Rattle.model.specs.Closed.{Slips}
use Rattle.model.specs.Labels.{text_of}
use Rattle.model.specs.Uses.{Uses}
use Rattle.model.specs.Limits.{answer}
use Rattle.model.specs.declared.labels.Label.{Label}
use Rattle.model.specs.declared.refusals.Refusal.{Refusal}
use Rattle.rules.specs.declared.limit.Limit.{Ghosts as Limit}
use Rattle.rules.specs.declared.rule.Rule.{Ghosts as Rule}
use Rattle.runs.specs.Days.{Day, Takes, refusal, changed}
use Rattle.runs.specs.Shown.{Shown}
use Rattle.runs.specs.declared.calls.Call.{Call}
use Rattle.sheet.specs.Sheets.{Changed, answer_with}

-- which uses limits take, by the members of their rule and their own
abbrev pub takes_by : {L S : Type 0} → Rule L S → Limit L S → Takes S
takes_by rule limit = record { width = rule.width; most = limit.most; form = limit.form }

module _ {S X : Type 0} (takes : Takes S) (d : Day S) (shown : Shown) (c : Call) (v : X) where
  -- the day is as it was, though its parts may be held anew
  pub refused_as : (why : Refusal) (r : Result X Refusal) (after : Day S) → refusal takes d c ≡ Some why → r ≡ Err why → after ≡ d → Changed takes d shown c v r after shown
  refused_as why r after e told same = record {
    answer = told ∙ sym (ap (answer_with v) e);
    day = same ∙ sym (cond-true _ _ _ (ap is_some e));
    shows = sym (cond-true _ _ _ (ap is_some e));
  }

  pub refused : (why : Refusal) → refusal takes d c ≡ Some why → Changed takes d shown c v (Err why) d shown
  refused why e = refused_as why (Err why) d e refl refl

  pub accepted : (w : X) (after : Day S) → refusal takes d c ≡ None → after ≡ changed takes d c → w ≡ v → Changed takes d shown c v (Ok w) after Shown.nothing
  accepted w after e same told = record {
    answer = ap Ok told ∙ sym (ap (answer_with v) e);
    day = same ∙ sym (cond-false _ _ _ (ap is_some e));
    shows = sym (cond-false _ _ _ (ap is_some e));
  }

-- ---- what a check answered

pub passed : (o : Option Refusal) → Ok tt ≡ answer o → o ≡ None
passed None e = refl
passed (Some why) e = cc

pub stopped : (o : Option Refusal) (why : Refusal) → Err why ≡ answer o → o ≡ Some why
stopped None why e = cc
stopped (Some other) why e = cc

-- an error that `told` makes another of
pub turned : {T E D : Type 0} (P : T → Type 0) (Q : E → Type 0) (R : E → D → Type 0) (told : E → D) → ((e : E) (d : D) → R e d → d ≡ told e) → (r : Result T E) (s : Result T D) → MatchResult r P Q → MatchResult r (λ x. s ≡ Ok x) (λ e. IsErrAnd s (R e)) → MatchResult s P (λ d. (e : E) × Q e × (d ≡ told e))
turned P Q R told by (Ok x) s p h = rw h p
turned P Q R told by (Err e) (Ok x) q h = absurd h
turned P Q R told by (Err e) (Err d) q h = (e, q, by e d h)

-- ---- the points of a sheet

pub vec_len-labels : (labels : Vec Label Global) → vec_len labels ≡ length (map text_of (vec_items labels))
vec_len-labels labels = labels.ok.0 ∙ sym (length-map (vec_items labels) text_of)

-- ---- days with the same parts

pub same_day : {S : Type 0} (h : ℕ) (labels : List (List ℕ)) (slips : Slips) (s t : S) (us vs : Uses) → s ≡ t → us ≡ vs → ◌≡◌ {A = Day S} (record { horizon = h; labels = labels; slips = slips; settings = s; uses = us }) (record { horizon = h; labels = labels; slips = slips; settings = t; uses = vs })
same_day {S} h labels slips s t us vs e f =
    let at-settings : S → Day S = λ r. record { horizon = h; labels = labels; slips = slips; settings = r; uses = us } in
    let at-uses : Uses → Day S = λ r. record { horizon = h; labels = labels; slips = slips; settings = t; uses = r } in
    ap at-settings e ∙ ap at-uses f
