-- When a tightening has come that no accepted change followed, one call after another.
use Rattle.std.proofs.Common.{◌≡◌, ℕ, ◌+◌, ◌<◌, ◌≤◌, true, ◌⊎◌, List, [], ◌∷◌, ◌++◌, length, get_or, take, None, sym, refl, ◌∙◌, subst, inl, inr, ⊎_elim, arith}
use Rattle.std.proofs.lemmas.List.{take_more, take-append-le, take_at, get_or_append_left, get_or_push, length_push}
use Rattle.std.proofs.lemmas.Bool.{cases_lt}
use Rattle.runs.specs.Days.{Day, Takes, refusal, after}
use Rattle.runs.specs.Runs.{Settled, changes}
use Rattle.runs.specs.declared.calls.Call.{Call}
use Rattle.runs.specs.declared.calls.Call.TheVariants.{Tighten}

module _ {S : Type 0} (takes : Takes S) (d : Day S) where
  pub settled_none : Settled takes d [] → ⊥
  settled_none settled = omega (arith, settled.tightened.0)

  -- the last call is a tightening, or a tightening before it still counts and the last call is no accepted change
  settled_push : (cs : List Call) (c : Call) → Settled takes d (cs ++ c ∷ []) → (c ≡ Tighten) ⊎ (Settled takes d cs × (changes c ≡ true → refusal takes (after takes d cs) c ≡ None → ⊥))
  settled_push cs c settled =
      ⊎_elim
      (λ (before : settled.place < length cs). inr (earlier before, no_change before))
      (λ (last : length cs ≤ settled.place). inl (sym (get_or_push cs c Tighten settled.place (omega (arith, length_push cs c, settled.tightened.0))) ∙ settled.tightened.1))
      (cases_lt settled.place (length cs))
    where
      no_change : settled.place < length cs → changes c ≡ true → refusal takes (after takes d cs) c ≡ None → ⊥
      no_change before change ok =
          let call = get_or_push cs c Tighten (length cs) refl in
          let days = take_at cs (c ∷ []) (length cs) refl in
          settled.quiet (length cs) before (omega (arith, length_push cs c)) (rw call change) (rw (days, call) ok)

      earlier : settled.place < length cs → Settled takes d cs
      earlier before = record {
        place = settled.place;
        tightened = (before, sym (get_or_append_left cs (c ∷ []) Tighten settled.place before) ∙ settled.tightened.1);
        quiet = λ j lt inside change ok.
            let call = get_or_append_left cs (c ∷ []) Tighten j inside in
            let days = take-append-le j cs (c ∷ []) (omega arith) in
            settled.quiet j lt (omega (arith, length_push cs c)) (rw call change) (rw (days, call) ok);
      }

  pub settled_more : (calls : List Call) (i : ℕ) → i < length calls → Settled takes d (take (i + 1) calls) → (get_or calls i Tighten ≡ Tighten) ⊎ (Settled takes d (take i calls) × (changes (get_or calls i Tighten) ≡ true → refusal takes (after takes d (take i calls)) (get_or calls i Tighten) ≡ None → ⊥))
  settled_more calls i lt settled = settled_push (take i calls) (get_or calls i Tighten) (subst (Settled takes d) (take_more calls i Tighten lt) settled)
