-- One call more of a list that is played.
use Rattle.std.proofs.Common.{◌≡◌, ℕ, ◌+◌, ◌<◌, true, cond, List, length, get_or, take, is_some, Some, None, Option, sym, refl, ap, ◌∙◌, subst, ⊎_elim, arith, below_more}
use Rattle.std.proofs.lemmas.Bool.{cond-true}
use Rattle.std.specs.Option.{option_map, option_or}
use Rattle.model.specs.declared.refusals.Refusal.{Refusal}
use Rattle.promise_laws.specs.Held.{UsesHeld}
use Rattle.runs.proofs.Afters.{after_more, held_after}
use Rattle.runs.proofs.Settling.{settled_more}
use Rattle.runs.specs.Days.{Day, Takes, points, refusal, changed, step, after}
use Rattle.runs.specs.Held.{Held}
use Rattle.runs.specs.Runs.{changes, Settled}
use Rattle.runs.specs.Shown.{Shown, Means, Shows}
use Rattle.runs.specs.declared.answers.Answer.{Answer}
use Rattle.runs.specs.declared.calls.Call.{Call}
use Rattle.runs.specs.declared.calls.Call.TheVariants.{Name, PostDistance, PostUse, WithdrawDistance, WithdrawUse, Tighten, LookBound, LookLevels}
use Rattle.sheet.specs.Replies.{refusal_of, answer_of, Replies, ShowsThen, Applied, FirstBefore, AnsweredFor}
use Rattle.sheet.specs.Sheets.{answer_with}
use Rattle.sheet.specs.declared.replies.Reply.{Reply}
use Rattle.sheet.specs.declared.replies.Reply.TheVariants.{Named, Changed}

-- ---- what was refused

named_refusal : (n : ℕ) (o : Option Refusal) → refusal_of (Named (answer_with n o)) ≡ o
named_refusal n None = refl
named_refusal n (Some why) = refl

changed_refusal : (o : Option Refusal) → refusal_of (Changed (answer_with tt o)) ≡ o
changed_refusal None = refl
changed_refusal (Some why) = refl

module _ {S : Type 0} (takes : Takes S) (means : Means S) where
  pub told_refusal : (d : Day S) (shown then : Shown) (c : Call) (r : Reply) → Replies takes means d shown then c r → refusal_of r ≡ refusal takes d c
  told_refusal d shown then (Name text) r e = ap refusal_of e ∙ named_refusal (points d) _
  told_refusal d shown then (PostDistance k s) r e = ap refusal_of e ∙ changed_refusal _
  told_refusal d shown then (PostUse place k u) r e = ap refusal_of e ∙ changed_refusal _
  told_refusal d shown then (WithdrawDistance k) r e = ap refusal_of e ∙ changed_refusal _
  told_refusal d shown then (WithdrawUse place k) r e = ap refusal_of e ∙ changed_refusal _
  told_refusal d shown then Tighten r e = ap refusal_of e.1
  told_refusal d shown then (LookBound i j) r e = ap refusal_of e
  told_refusal d shown then (LookLevels place x) r e = ap refusal_of e

  -- ---- what is shown

  some_refusal : (o : Option Refusal) → (o ≡ None → ⊥) → is_some o ≡ true
  some_refusal None h = absurd (h refl)
  some_refusal (Some why) h = refl

  -- a refused change leaves the day and what is shown of it
  refused_change : (d : Day S) (shown then : Shown) (c : Call) → then ≡ cond (is_some (refusal takes d c)) shown Shown.nothing → (refusal takes d c ≡ None → ⊥) → Shows means d shown → Shows means (step takes d c) then
  refused_change d shown then c e no-accept shows =
      let t = some_refusal (refusal takes d c) no-accept in
      subst (λ x. Shows means x then) (sym (cond-true (is_some (refusal takes d c)) d (changed takes d c) t)) (subst (Shows means d) (sym (e ∙ cond-true (is_some (refusal takes d c)) shown Shown.nothing t)) shows)

  still_shown : (d : Day S) (shown then : Shown) (c : Call) → ShowsThen takes means d shown then c → (changes c ≡ true → refusal takes d c ≡ None → ⊥) → UsesHeld (points d) d.uses → Shows means d shown → Shows means (step takes d c) then
  still_shown d shown then (Name text) e quiet held shows = refused_change d shown then (Name text) e (quiet refl) shows
  still_shown d shown then (PostDistance k s) e quiet held shows = refused_change d shown then (PostDistance k s) e (quiet refl) shows
  still_shown d shown then (PostUse place k u) e quiet held shows = refused_change d shown then (PostUse place k u) e (quiet refl) shows
  still_shown d shown then (WithdrawDistance k) e quiet held shows = refused_change d shown then (WithdrawDistance k) e (quiet refl) shows
  still_shown d shown then (WithdrawUse place k) e quiet held shows = refused_change d shown then (WithdrawUse place k) e (quiet refl) shows
  still_shown d shown then Tighten e quiet held shows = e held
  still_shown d shown then (LookBound i j) e quiet held shows = subst (Shows means d) (sym e) shows
  still_shown d shown then (LookLevels place x) e quiet held shows = subst (Shows means d) (sym e) shows

  -- ---- what was answered

  tightened_answered : (d : Day S) (shown then : Shown) (r : Reply) (before : Option Answer) → Replies takes means d shown then Tighten r → AnsweredFor (points d) then (option_or (answer_of r) before)
  tightened_answered d shown then r before (a, e, told) = subst (λ x. AnsweredFor (points d) then (option_or (answer_of x) before)) (sym e) told

  -- a call that is no tightening tells no answer
  refused_answer : (d : Day S) (shown then : Shown) (c : Call) (r : Reply) (before : Option Answer) → answer_of r ≡ None → then ≡ cond (is_some (refusal takes d c)) shown Shown.nothing → (refusal takes d c ≡ None → ⊥) → AnsweredFor (points d) shown before → AnsweredFor (points (step takes d c)) then (option_or (answer_of r) before)
  refused_answer d shown then c r before none e no-accept told =
      let t = some_refusal (refusal takes d c) no-accept in
      subst (λ o. AnsweredFor (points (step takes d c)) then (option_or o before)) (sym none)
      (subst (λ x. AnsweredFor (points x) then before) (sym (cond-true (is_some (refusal takes d c)) d (changed takes d c) t))
      (subst (λ x. AnsweredFor (points d) x before) (sym (e ∙ cond-true (is_some (refusal takes d c)) shown Shown.nothing t)) told))

  look_answer : (d : Day S) (shown then : Shown) (r : Reply) (before : Option Answer) → answer_of r ≡ None → then ≡ shown → AnsweredFor (points d) shown before → AnsweredFor (points d) then (option_or (answer_of r) before)
  look_answer d shown then r before none e told = subst (λ o. AnsweredFor (points d) then (option_or o before)) (sym none) (subst (λ x. AnsweredFor (points d) x before) (sym e) told)

  still_answered : (d : Day S) (shown then : Shown) (c : Call) (r : Reply) (before : Option Answer) → Replies takes means d shown then c r → ShowsThen takes means d shown then c → (changes c ≡ true → refusal takes d c ≡ None → ⊥) → AnsweredFor (points d) shown before → AnsweredFor (points (step takes d c)) then (option_or (answer_of r) before)
  still_answered d shown then (Name text) r before e s quiet told = refused_answer d shown then (Name text) r before (ap answer_of e) s (quiet refl) told
  still_answered d shown then (PostDistance k x) r before e s quiet told = refused_answer d shown then (PostDistance k x) r before (ap answer_of e) s (quiet refl) told
  still_answered d shown then (PostUse place k u) r before e s quiet told = refused_answer d shown then (PostUse place k u) r before (ap answer_of e) s (quiet refl) told
  still_answered d shown then (WithdrawDistance k) r before e s quiet told = refused_answer d shown then (WithdrawDistance k) r before (ap answer_of e) s (quiet refl) told
  still_answered d shown then (WithdrawUse place k) r before e s quiet told = refused_answer d shown then (WithdrawUse place k) r before (ap answer_of e) s (quiet refl) told
  still_answered d shown then Tighten r before e s quiet told = tightened_answered d shown then r before e
  still_answered d shown then (LookBound i j) r before e s quiet told = look_answer d shown then r before (ap answer_of e) s told
  still_answered d shown then (LookLevels place x) r before e s quiet told = look_answer d shown then r before (ap answer_of e) s told

  -- ---- one call more

  module _ (d : Day S) (calls : List Call) (i : ℕ) (within : i < length calls) (c : Call) (is : c ≡ get_or calls i Tighten) (now-day next : Day S) (reached : now-day ≡ after takes d (take i calls)) (shown then : Shown) (r : Reply) (applied : Applied takes means now-day shown then c r next) where
    next_step : next ≡ step takes (after takes d (take i calls)) (get_or calls i Tighten)
    next_step = applied.day ∙ (ap (λ x. step takes x c) reached ∙ ap (step takes (after takes d (take i calls))) is)

    pub day_more : next ≡ after takes d (take (i + 1) calls)
    day_more = next_step ∙ sym (after_more takes d calls i within)

    refused_here : refusal_of r ≡ refusal takes (after takes d (take i calls)) (get_or calls i Tighten)
    refused_here = told_refusal now-day shown then c r applied.reply ∙ (ap (λ x. refusal takes x c) reached ∙ ap (refusal takes (after takes d (take i calls))) is)

    pub first_more : (first : Option (ℕ × Refusal)) → FirstBefore takes d calls i first → FirstBefore takes d calls (i + 1) (option_or first (option_map (λ why. (i, why)) (refusal_of r)))
    first_more (Some w) h = (omega arith, h.1, h.2)
    first_more None h = by (refusal_of r) refused_here
      where
        by : (o : Option Refusal) → o ≡ refusal takes (after takes d (take i calls)) (get_or calls i Tighten) → FirstBefore takes d calls (i + 1) (option_or None (option_map (λ why. (i, why)) o))
        by None e = below_more _ _ h (sym e)
        by (Some why) e = (omega arith, sym e, h)

    pub shows_more : Held d → (Settled takes d (take i calls) → Shows means now-day shown) → Settled takes d (take (i + 1) calls) → Shows means next then
    shows_more held before settled =
        subst (λ x. Shows means x then) (sym applied.day)
        (⊎_elim (λ t. tightens (is ∙ t)) (λ w. still_shown now-day shown then c applied.shows (quiet w.1) held_now (before w.0)) (settled_more takes d calls i within settled))
      where
        held_now : UsesHeld (points now-day) now-day.uses
        held_now = subst (λ x. UsesHeld (points x) x.uses) (sym reached) (held_after takes d (take i calls) held).uses

        tightens : c ≡ Tighten → Shows means (step takes now-day c) then
        tightens t = subst (λ x. ShowsThen takes means now-day shown then x → Shows means (step takes now-day x) then) (sym t) (λ e. e held_now) applied.shows

        quiet : (changes (get_or calls i Tighten) ≡ true → refusal takes (after takes d (take i calls)) (get_or calls i Tighten) ≡ None → ⊥) → changes c ≡ true → refusal takes now-day c ≡ None → ⊥
        quiet h = subst (λ x. changes x ≡ true → refusal takes now-day x ≡ None → ⊥) (sym is) (subst (λ x. changes (get_or calls i Tighten) ≡ true → refusal takes x (get_or calls i Tighten) ≡ None → ⊥) (sym reached) h)

    -- the answer of the last tightening is that for what is shown
    pub answer_more : (before : Option Answer) → (Settled takes d (take i calls) → AnsweredFor (points now-day) shown before) → Settled takes d (take (i + 1) calls) → AnsweredFor (points next) then (option_or (answer_of r) before)
    answer_more before told settled =
        subst (λ x. AnsweredFor (points x) then (option_or (answer_of r) before)) (sym applied.day)
        (⊎_elim (λ t. tightens (is ∙ t)) (λ w. still_answered now-day shown then c r before applied.reply applied.shows (quiet w.1) (told w.0)) (settled_more takes d calls i within settled))
      where
        tightens : c ≡ Tighten → AnsweredFor (points (step takes now-day c)) then (option_or (answer_of r) before)
        tightens t = subst (λ x. Replies takes means now-day shown then x r → AnsweredFor (points (step takes now-day x)) then (option_or (answer_of r) before)) (sym t) (λ e. tightened_answered now-day shown then r before e) applied.reply

        quiet : (changes (get_or calls i Tighten) ≡ true → refusal takes (after takes d (take i calls)) (get_or calls i Tighten) ≡ None → ⊥) → changes c ≡ true → refusal takes now-day c ≡ None → ⊥
        quiet h = subst (λ x. changes x ≡ true → refusal takes now-day x ≡ None → ⊥) (sym is) (subst (λ x. changes (get_or calls i Tighten) ≡ true → refusal takes x (get_or calls i Tighten) ≡ None → ⊥) (sym reached) h)
