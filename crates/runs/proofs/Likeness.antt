-- A day shows one thing and gives one answer, and days alike show the same.
use Rattle.std.proofs.Common.{◌≡◌, ℕ, Decides, sym, refl, ap, ◌∙◌, subst, ap₂}
use mathlib.Core.Path.{transport}
use lib.Count.{ones}
use Rattle.std.proofs.lemmas.Bool.Decides.{same_from_decides}
use Rattle.model.specs.Closed.{NoneClosed, Tightened}
use Rattle.model.specs.declared.moments.Moment.{Moment}
use Rattle.promise_laws.proofs.Alike.{one_table, excluded}
use Rattle.runs.proofs.Words.{same_word}
use Rattle.runs.specs.Days.{Day}
use Rattle.runs.specs.Promise.{Alike}
use Rattle.runs.specs.Shown.{Shown, Means, Shows, Answers, look_levels}
use Rattle.runs.specs.declared.answers.Answer.{Answer}

-- ---- one day

module _ {S : Type 0} (means : Means S) (d : Day S) where
  -- a day shows one thing at most
  pub one_shown : (other shown : Shown) → Shows means d other → Shows means d shown → other ≡ shown
  one_shown Shown.nothing shown shows-other shows = absurd shows-other
  one_shown Shown.no_plan Shown.nothing shows-other shows = absurd shows
  one_shown (Shown.bounds k all) Shown.nothing shows-other shows = absurd shows
  one_shown Shown.no_plan Shown.no_plan shows-other shows = refl
  one_shown Shown.no_plan (Shown.bounds m any) none (tight, vouched) = absurd (excluded _ _ _ _ m tight none)
  one_shown (Shown.bounds k all) Shown.no_plan (tight, vouched) none = absurd (excluded _ _ _ _ k tight none)
  one_shown (Shown.bounds k all) (Shown.bounds m any) (tight-k, vouched-k) (tight-m, vouched-m) =
      let same : k ≡ m = one_table _ _ _ _ k tight-k m tight-m in
      ap₂ Shown.bounds same (same_from_decides all any (subst (λ v. Decides all ((means d.settings d.uses).vouches v)) same vouched-k) vouched-m)

-- what is shown pins the answer of tightening
pub one_answer : (n : ℕ) (shown : Shown) (a b : Answer) → Answers n shown a → Answers n shown b → b ≡ a
one_answer n Shown.nothing a b of-a of-b = absurd of-a
one_answer n Shown.no_plan a b (verdict-a, loose-a, count-a) (verdict-b, loose-b, count-b) = λ x. record {
  verdict = (verdict-b ∙ sym verdict-a) x;
  loose = (loose-b ∙ sym loose-a) x;
  count = (count-b ∙ sym count-a) x;
}
one_answer n (Shown.bounds m any) a b (verdict-a, word-a, count-a) (verdict-b, word-b, count-b) =
    let same : b.loose ≡ a.loose = same_word n b.loose a.loose word-b.short word-a.short (λ p l. word-b.bits p l ∙ sym (word-a.bits p l)) in
    λ x. record {
      verdict = (verdict-b ∙ sym verdict-a) x;
      loose = same x;
      count = (count-b ∙ ap ones same ∙ sym count-a) x;
    }

-- ---- two days alike

module _ {S : Type 0} (means : Means S) (d e : Day S) (alike : Alike d e) where
  same_meaning : means e.settings e.uses ≡ means d.settings d.uses
  same_meaning = λ x. means (alike.settings x) (λ place k. alike.uses place k x)

  -- what one shows, the other does
  pub shows_alike : (shown : Shown) → Shows means e shown → Shows means d shown
  shows_alike Shown.nothing shows = absurd shows
  shows_alike Shown.no_plan shows = transport (λ x. NoneClosed (alike.horizon x) (alike.points x) (λ k. alike.slips k x) (same_meaning x)) shows
  shows_alike (Shown.bounds m any) (tight, vouched) = (
    transport (λ x. Tightened (alike.horizon x) (alike.points x) (λ k. alike.slips k x) (same_meaning x) m) tight,
    subst (λ r. Decides any (r.vouches m)) same_meaning vouched,
  )

  -- where both show the same, they tell the same levels
  pub levels_alike : (width : S → ℕ) (shown : Shown) (place : ℕ) (x : Moment) → look_levels width means e shown place x ≡ look_levels width means d shown place x
  levels_alike width shown place x =
      let uses : e.uses ≡ d.uses = λ y at k. alike.uses at k y in
      rw (alike.points, alike.horizon, alike.settings, uses)
