-- A sheet that shows what tightening its day gives keeps its promise.
use Rattle.std.proofs.Common.{◌≡◌, ℕ, ◌<◌, ◌≤◌, Bool, true, false, cond, Decides, sym, refl, ap, ◌∙◌, subst, arith}
use lib.Count.{ones}
use Rattle.std.proofs.lemmas.Int.{ints}
use Rattle.model.specs.Closed.{SlipsHeld, Loose}
use Rattle.model.specs.Meanings.{Lawful}
use Rattle.model.specs.Plans.{View}
use Rattle.model.specs.declared.verdicts.Verdict.{Verdict}
use Rattle.model.specs.declared.verdicts.Verdict.TheVariants.{NoPlan, AnyPlan}
use Rattle.promise_laws.specs.Held.{UsesHeld}
use Rattle.promise_laws.proofs.Obeying as obeying
use Rattle.runs.proofs.Likeness.{one_shown, one_answer, shows_alike, levels_alike}
use Rattle.runs.proofs.Words.{no_bit}
use Rattle.runs.specs.Days.{Day, Takes, points}
use Rattle.runs.specs.Promise.{Alike, Kept}
use Rattle.runs.specs.Shown.{Shown, Means, Shows, NoneClosedOn, TightenedOn, Answers, LooseWord, verdict_of, loose, look_levels}
use Rattle.runs.specs.declared.answers.Answer.{Answer}

-- ---- answers

-- no point is loose where the word has no ones
no_loose : (m : View) (n w : ℕ) → LooseWord m n w → ones w ≡ 0 → (p : ℕ) → p < n → Loose m p → ⊥
no_loose m n w word none p l free =
    let bit : ◌≡◌ {A = ℕ} (cond (loose m p) 1 0) 0 = sym (word.bits p l) ∙ no_bit w p none in
    grind (arith, ints)

-- the verdict under bounds is "any plan" exactly if every limit vouches for them
verdict_any_holds : (all : Bool) (v : Verdict) → v ≡ verdict_of all → (v ≡ AnyPlan → all ≡ true) × (all ≡ true → v ≡ AnyPlan)
verdict_any_holds true v is = (λ _. refl, λ _. is)
verdict_any_holds false v is = (λ e. cc, λ e. cc)

verdict_none_holds : (n : ℕ) (shown : Shown) (a : Answer) → Answers n shown a → (a.verdict ≡ NoPlan → shown ≡ Shown.no_plan) × (shown ≡ Shown.no_plan → a.verdict ≡ NoPlan)
verdict_none_holds n Shown.nothing a answers = absurd answers
verdict_none_holds n Shown.no_plan a answers = (λ _. refl, λ _. answers.0)
verdict_none_holds n (Shown.bounds m true) a answers = (λ e. cc, λ e. cc)
verdict_none_holds n (Shown.bounds m false) a answers = (λ e. cc, λ e. cc)

-- ---- a sheet that is tightened on the day d and shows this

module _ {S : Type 0} (takes : Takes S) (means : Means S) (d : Day S) (shown : Shown) (lawful : Lawful d.uses (means d.settings d.uses)) (hours : d.horizon ≤ 10080) (some : 0 < points d) (uses-held : UsesHeld (points d) d.uses) (slips-held : SlipsHeld (points d) d.slips) (shows : Shows means d shown) where
  at_none : shown ≡ Shown.no_plan → NoneClosedOn means d
  at_none e = subst (Shows means d) e shows

  module _ (m : View) (all : Bool) (is : shown ≡ Shown.bounds m all) where
    at_bounds : TightenedOn means d m × Decides all ((means d.settings d.uses).vouches m)
    at_bounds = subst (Shows means d) is shows

    module _ (a : Answer) (answers : Answers (points d) shown a) where
      answered : (a.verdict ≡ verdict_of all) × LooseWord m (points d) a.loose × (a.count ≡ ones a.loose)
      answered = subst (λ o. Answers (points d) o a) is answers

      -- "any plan" is answered exactly if every limit vouches for the table
      vouched : (a.verdict ≡ AnyPlan → (means d.settings d.uses).vouches m) × ((means d.settings d.uses).vouches m → a.verdict ≡ AnyPlan)
      vouched =
          let says = verdict_any_holds all a.verdict answered.0 in
          (λ e. at_bounds.1.0 (says.0 e), λ v. says.1 (at_bounds.1.1 v))

      -- no loose point: the table is vouched for
      settled : a.count ≡ 0 → a.verdict ≡ AnyPlan
      settled none =
          vouched.1
          (obeying.fixed _ _ _ _ _ lawful uses-held m at_bounds.0 (no_loose m (points d) a.loose answered.1 (sym answered.2 ∙ none)))

  pub kept : Kept takes means d shown
  kept = record {
    none = λ e. obeying.none _ _ _ _ _ lawful uses-held hours slips-held some (at_none e);
    none_closed = at_none;
    closed = λ m all e. (at_bounds m all e).0.closed;
    greatest = λ m all e. (at_bounds m all e).0.greatest;
    exact = λ m all e. obeying.exact _ _ _ _ _ lawful uses-held hours slips-held m (at_bounds m all e).0;
    any = λ m all a e answers v. obeying.any _ _ _ _ _ lawful uses-held hours slips-held m (at_bounds m all e).0 ((vouched m all e a answers).0 v);
    verdict_none = verdict_none_holds (points d) shown;
    verdict_any = λ m all a e answers. vouched m all e a answers;
    fixed = λ m all a e answers. settled m all e a answers;
    alike = same;
    same_answer = λ e other a b alike others of-a of-b. one_answer (points d) shown a b of-a (rw (← alike.points, ← same e other alike others) of-b);
    same_bound = λ e other i j alike others. rw (alike.points, same e other alike others);
    same_levels = λ e other place x alike others. levels_alike means d e alike takes.width other place x ∙ ap (λ o. look_levels takes.width means d o place x) (same e other alike others);
  }
    where
      -- a day alike shows the same
      same : (e : Day S) (other : Shown) → Alike d e → Shows means e other → other ≡ shown
      same e other alike others = one_shown means d other shown (shows_alike means d e alike other others) shows
