-- How planning a reading ends.
use Rattle.std.proofs.Common.{◌≡◌, ℕ, ◌<◌, Bool, true, false, cond, ltb, ◌⊎◌, List, [], ◌∷◌, ◌++◌, map, length, get_or, take, Some, None, Ok, Err, Option, sym, refl, ap, ◌∙◌, subst, inl, inr, arith, length-append, ltb-false}
use Rattle.std.proofs.lemmas.List.{length-map}
use Rattle.bunker_laws.specs.declared.settings.Settings.{Settings}
use Rattle.dayfile.specs.Files.{fault_at, place_at}
use Rattle.dayfile.specs.Reading.{Read, Sound, first_fault}
use Rattle.dayfile.specs.declared.faults.DayFile.TheVariants.{Bridge}
use Rattle.dayfile.specs.declared.faults.Fault.{Fault}
use Rattle.dayfile.specs.declared.faults.Place.{Place}
use Rattle.daytables.specs.Rows.{entry_of}
use Rattle.model.specs.Uses.{none as none'}
use Rattle.model.specs.declared.refusals.Refusal.{Refusal}
use Rattle.model.specs.declared.refusals.Refusal.TheVariants.{NotTightened, BufferShort}
use Rattle.output.specs.Written.{IsOutput, Wrote}
use Rattle.runs.specs.Days.{refusal, after}
use Rattle.runs.specs.Promise.{Promise}
use Rattle.runs.specs.Runs.{Settled}
use Rattle.runs.specs.Shown.{Shown, Shows}
use Rattle.runs.specs.declared.calls.Call.{Call}
use Rattle.runs.specs.declared.calls.Call.TheVariants.{Tighten}
use Rattle.sheet.specs.Replies.{FirstRefused}
use Rattle.sheet.specs.Sheets.{day_of, shown_of}
use Rattle.sheet.specs.declared.running.Played.{Played}
use Rattle.yard.specs.Yards.{Limits, LimitSettings, takes, means, settings_of, uses_of}
use Rattle.planning.specs.Plans.{Made, UnmadeFault, PlayedFor, Planned, Answered, Faulty, unmade, refused, morning, evening, PlansFor}
use Rattle.planning.specs.declared.faults.NotPlanned.{NotPlanned}
use Rattle.planning.specs.declared.faults.NotPlanned.TheVariants as cause

pub unmade_end : (r : Read) (before : List ℕ) (e : NotPlanned) → UnmadeFault r e → PlansFor r before before (Err e)
unmade_end r before e u = subst (λ x. PlansFor r before before (Err x)) (sym u.first.is) (refl, unmade u.unmade u.first.found)

-- what is told of a call does not depend on the calls that were read
pub same_fault : (r z : Read) (call : Option (ℕ × Refusal)) → z.places ≡ r.places → z.fault ≡ r.fault → first_fault z None None call ≡ first_fault r None None call
same_fault r z None p q = q
same_fault r z (Some w) p q = ap (λ ps. told ps z.fault) p ∙ ap (told r.places) q
  where
    told : List Place → Option Fault → Option Fault
    told ps fault = cond (ltb w.0 (length ps)) (Some (fault_at (get_or ps w.0 (place_at Bridge 0)) w.1)) fault

-- ---- a tightening behind the calls

last_is : (calls : List Call) → get_or (calls ++ Tighten ∷ []) (length calls) Tighten ≡ Tighten
last_is [] = refl
last_is (c ∷ calls) = last_is calls

settled : (s : LimitSettings) (calls : List Call) → Settled takes (morning s) (calls ++ Tighten ∷ [])
settled s calls = record {
  place = length calls;
  tightened = (omega (arith, length-append calls (Tighten ∷ [])), last_is calls);
  quiet = λ j behind within changes accepted. absurd (omega (arith, length-append calls (Tighten ∷ [])));
}

-- ---- the day

module _ (r : Read) (first second : Settings) (made : Made r (first, second)) (calls : List Call) (read : map entry_of calls ≡ r.calls) (all : List Call) (ends : all ≡ calls ++ Tighten ∷ []) (x : Played Limits) (p : PlayedFor first second all x) where
  abbrev pub planned : Planned r
  planned = record {
    settings = p.settings;
    made = record {
      first = made.first;
      second = made.second;
      first_line = made.first_line;
      second_line = made.second_line;
      left = record { floor = p.left.floor ∙ made.left.floor; roof = p.left.roof ∙ made.left.roof; start = p.left.start ∙ made.left.start };
      right = record { floor = p.right.floor ∙ made.right.floor; roof = p.right.roof ∙ made.right.roof; start = p.right.start ∙ made.right.start };
    };
    calls = calls;
    read = read;
  }

  told : FirstRefused takes (morning p.settings) (calls ++ Tighten ∷ []) x.told.refused
  told = subst (λ l. FirstRefused takes (morning p.settings) l x.told.refused) ends p.refused

  pub refused_end : (fault : Fault) → first_fault r None None x.told.refused ≡ Some fault → Faulty r fault
  refused_end fault e = refused planned x.told.refused told e

  -- a tightening is not refused, so a call that is has its place
  none_refused : Sound r → (call : Option (ℕ × Refusal)) → FirstRefused takes (morning p.settings) (calls ++ Tighten ∷ []) call → first_fault r None None call ≡ None → (call ≡ None) × (r.fault ≡ None)
  none_refused sound None first-told e = (refl, e)
  none_refused sound (Some w) (within, is, before) e = by (ltb w.0 (length r.places)) refl e
    where
      by : (t : Bool) → ltb w.0 (length r.places) ≡ t → cond t (Some (fault_at (get_or r.places w.0 (place_at Bridge 0)) w.1)) r.fault ≡ None → (Some w ≡ None) × (r.fault ≡ None)
      by true t f = absurd (grind arith)
      by false t f =
          let count : length r.calls ≡ length calls = sym (ap length read) ∙ length-map calls entry_of in
          let at : w.0 ≡ length calls = omega (arith, ltb-false w.0 (length r.places) t, sound.placed, count, length-append calls (Tighten ∷ [])) in
          let quiet : get_or (calls ++ Tighten ∷ []) w.0 Tighten ≡ Tighten = ap (λ i. get_or (calls ++ Tighten ∷ []) i Tighten) at ∙ last_is calls in
          let clash : None ≡ Some w.1 = sym (ap (refusal takes (after takes (morning p.settings) (take w.0 (calls ++ Tighten ∷ [])))) quiet) ∙ is in
          absurd (grind arith)

  pub answered : Sound r → first_fault r None None x.told.refused ≡ None → Answered r planned (shown_of x.sheet)
  answered sound e =
      let none = none_refused sound x.told.refused told e in
      let promise : Promise takes means 1440 p.settings none' (calls ++ Tighten ∷ []) (shown_of x.sheet) = subst (λ l. Promise takes means 1440 p.settings none' l (shown_of x.sheet)) ends p.promise in
      record {
        whole = none.1;
        accepted = subst (FirstRefused takes (morning p.settings) (calls ++ Tighten ∷ [])) none.0 told;
        shows = promise.shows (settled p.settings calls);
        promise = promise;
      }

  -- the labels that the sheet writes are those of the day
  pub labelled : (day_of settings_of uses_of x.sheet).labels ≡ (evening planned).labels
  labelled = ap (λ d. d.labels) (p.day ∙ ap (after takes (morning p.settings)) ends)

  pub written : (n : ℕ) (before behind : List ℕ) → Sound r → first_fault r None None x.told.refused ≡ None → Wrote (day_of settings_of uses_of x.sheet).labels (shown_of x.sheet) before behind (Ok n) → PlansFor r before behind (Ok n)
  written n before behind sound e w = (planned, shown_of x.sheet, answered sound e, subst (λ ls. Wrote ls (shown_of x.sheet) before behind (Ok n)) labelled w)

  pub unwritten : (why : Refusal) (before behind : List ℕ) → Sound r → first_fault r None None x.told.refused ≡ None → Wrote (day_of settings_of uses_of x.sheet).labels (shown_of x.sheet) before behind (Err why) → PlansFor r before behind (Err (cause.Refused why))
  unwritten why before behind sound e w = (w.0, inr (planned, shown_of x.sheet, answered sound e, short w.1, subst (λ ls. Wrote ls (shown_of x.sheet) before behind (Err why)) labelled w))
    where
      short : ((why ≡ NotTightened) × (shown_of x.sheet ≡ Shown.nothing)) ⊎ ((why ≡ BufferShort) × ((out : List ℕ) × IsOutput (day_of settings_of uses_of x.sheet).labels (shown_of x.sheet) out × (length before < length out))) → why ≡ BufferShort
      short (inl s) = absurd (subst (Shows means (evening planned)) s.1 (answered sound e).shows)
      short (inr s) = s.0
