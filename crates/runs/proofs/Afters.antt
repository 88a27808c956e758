-- The day after a list of calls.
use Rattle.std.proofs.Common.{◌≡◌, ℕ, ◌+◌, ◌<◌, cond, List, [], ◌∷◌, ◌++◌, length, get_or, take, is_some, Some, None, Option, refl, ap, ◌∙◌, arith}
use Rattle.std.proofs.lemmas.List.{take_more, length_push}
use Rattle.std.proofs.lemmas.Bool.Decides.{nat_tests}
use Rattle.model.specs.Uses.{Uses}
use Rattle.model.specs.declared.refusals.Refusal.{Refusal}
use Rattle.runs.specs.Held.{Held}
use Rattle.runs.specs.Days.{Day, Takes, ruled, refusal, changed, step, after}
use Rattle.runs.specs.declared.calls.Call.{Call}
use Rattle.runs.specs.declared.calls.Call.TheVariants.{Tighten}

-- on a newly ruled day on which no use stands
pub held_ruled : {S : Type 0} (h : ℕ) (s : S) (us : Uses) → ((place k : ℕ) → us place k ≡ None) → Held (ruled h s us)
held_ruled h s us none = record { slips = λ k x e. cc; uses = λ place k u e. let n = none place k in cc; some = omega arith }

module _ {S : Type 0} (takes : Takes S) where
  -- the day after a call is the day itself, where the call is refused, and the changed day, where it is accepted
  pub by_step : (d : Day S) (c : Call) (P : Day S → Type 0) → ((refusal takes d c ≡ None → ⊥) → P d) → (refusal takes d c ≡ None → P (changed takes d c)) → P (step takes d c)
  by_step d c P = by_refusal (refusal takes d c)
    where
      by_refusal : (o : Option Refusal) → ((o ≡ None → ⊥) → P d) → (o ≡ None → P (changed takes d c)) → P (cond (is_some o) d (changed takes d c))
      by_refusal None refused accepted = accepted refl
      by_refusal (Some why) refused accepted = refused (λ e. cc)

  -- ---- one call more

  after_append : (d : Day S) (cs es : List Call) → after takes d (cs ++ es) ≡ after takes (after takes d cs) es
  after_append d [] es = refl
  after_append d (c ∷ cs) es = after_append (step takes d c) cs es

  pub after_more : (d : Day S) (calls : List Call) (i : ℕ) → i < length calls → after takes d (take (i + 1) calls) ≡ step takes (after takes d (take i calls)) (get_or calls i Tighten)
  after_more d calls i lt = ap (after takes d) (take_more calls i Tighten lt) ∙ after_append d (take i calls) (get_or calls i Tighten ∷ [])

  -- ---- what no call changes

  pub horizon_kept : (d : Day S) (calls : List Call) → (after takes d calls).horizon ≡ d.horizon
  horizon_kept d [] = refl
  horizon_kept d (c ∷ cs) = horizon_kept (step takes d c) cs ∙ by_step d c (λ e. e.horizon ≡ d.horizon) (λ _. refl) (λ _. grind arith)

  pub settings_kept : (d : Day S) (calls : List Call) → (after takes d calls).settings ≡ d.settings
  settings_kept d [] = refl
  settings_kept d (c ∷ cs) = settings_kept (step takes d c) cs ∙ by_step d c (λ e. e.settings ≡ d.settings) (λ _. refl) (λ _. grind arith)

  -- ---- the points that standing slips and uses name

  held_changed : (d : Day S) (c : Call) → refusal takes d c ≡ None → Held d → Held (changed takes d c)
  held_changed d c ok held =
      record {
        slips = λ k x e. let before = held.slips k x in grind (arith, nat_tests, length_push);
        uses = λ place k u e. let before = held.uses place k u in grind (arith, nat_tests, length_push);
        some = let some = held.some in grind (arith, length_push);
      }

  pub held_after : (d : Day S) (calls : List Call) → Held d → Held (after takes d calls)
  held_after d [] held = held
  held_after d (c ∷ cs) held = held_after (step takes d c) cs (by_step d c Held (λ _. held) (λ ok. held_changed d c ok held))
