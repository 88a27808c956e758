-- What tightening a day shows and answers: "any plan" where the limits vouch for the table, "open" where they do not, and "no plan".
use Rattle.std.proofs.Common.{◌≡◌, ℕ, suc, ◌/◌, ◌%◌, ◌^◌, ◌<◌, Bool, true, false, cond, ◌&&◌, eqb, ltb, List, ◌++◌, length, ℤ, pos, ◌<ℤ◌, refl, subst, lit≤}
use lib.Count.{ones}
use Rattle.std.proofs.lemmas.Bool.{and_parts, eqb-true, ltb-true, false≢true}
use Rattle.model.specs.Closed.{Tightened}
use Rattle.model.specs.Meanings.{Meaning, Lawful}
use Rattle.model.specs.Plans.{Plan, PlanOf, View, Meets}
use Rattle.model.specs.Uses.{single}
use Rattle.model.specs.declared.slips.Distance.{Distance}
use Rattle.model.specs.declared.slips.Use.{Use}
use Rattle.model.specs.declared.verdicts.Verdict.TheVariants.{NoPlan, Open, AnyPlan}
use Rattle.runs.specs.Shown.{Shown, Means, LooseWord, loose}
use Rattle.worked_days.proofs.Rows.{fits, sound}
use Rattle.worked_days.proofs.Shortest.{shortest}
use Rattle.worked_days.proofs.Tests.{all_below, below}
use Rattle.worked_days.proofs.Tightened.{Owed, named, named_holds, none_closed_holds, tightens}
use Rattle.worked_days.specs.Forms.{table, numbered_from, day, Tightens}

-- the word has a one for each loose point
abbrev pub marked : View → (n word : ℕ) → Bool
marked m n word = ltb word (2 ^ n) && all_below n (λ p. eqb (word / 2 ^ p % 2) (cond (loose m p) 1 0))

loose_word : (m : View) (n word : ℕ) → marked m n word ≡ true → LooseWord m n word
loose_word m n word e =
    let parts = and_parts (ltb word (2 ^ n)) (all_below n (λ p. eqb (word / 2 ^ p % 2) (cond (loose m p) 1 0))) e in
    record {
      short = ltb-true word (2 ^ n) parts.0;
      bits = λ p h. eqb-true (word / 2 ^ p % 2) (cond (loose m p) 1 0) (below n (λ p. eqb (word / 2 ^ p % 2) (cond (loose m p) 1 0)) parts.1 p h);
    }

module _ {S : Type 0} (means : Means S) (labels : List (List ℕ)) (ss further : List Distance) (s : S) (us : List Use) where
  -- what the limits mean on the day
  abbrev limits : Meaning
  limits = means s (single (numbered_from 1 us))

  -- a point that has to come before itself
  pub no_plan_holds : Owed 1440 (suc (length labels)) ss further limits → (i : ℕ) → i < suc (length labels) → shortest 1440 (suc (length labels)) (ss ++ further) i i <ℤ pos 0 → Tightens means (day labels ss s us) Shown.no_plan NoPlan 0 0
  no_plan_holds owed i hi low = record { shows = none_closed_holds 1440 (suc (length labels)) ss further limits owed i hi low; answers = (refl, refl, refl) }

  -- a table whose rows pass the tests
  module _ (lawful : Lawful (single (numbered_from 1 us)) limits) (rows : List (List ℤ)) (word : ℕ)
      (as_many : length rows ≡ suc (length labels))
      (passed : fits 1440 ss further rows ≡ true)
      (names : named (length rows) us ≡ true)
      (marks : marked (table rows) (length rows) word ≡ true)
      (owed : Owed 1440 (length rows) ss further limits) where
    abbrev Allowed : Type 0
    Allowed = (t : Plan) → PlanOf (length rows) 10080 t → Meets t (table rows) → limits.allows t

    tight : Allowed → Tightened 1440 (suc (length labels)) (numbered_from 1 ss) limits (table rows)
    tight allowed = subst (λ n. Tightened 1440 n (numbered_from 1 ss) limits (table rows)) as_many (tightens 1440 ss further rows us limits (lit≤ tt) passed names lawful owed allowed)

    told : LooseWord (table rows) (suc (length labels)) word
    told = subst (λ n. LooseWord (table rows) n word) as_many (loose_word (table rows) (length rows) word marks)

    pub any_plan : limits.vouches (table rows) → Tightens means (day labels ss s us) (Shown.bounds (table rows) true) AnyPlan word (ones word)
    any_plan vouched = record {
      shows = (
        tight (λ t plan meets. lawful.stands (table rows) t (sound 1440 ss further rows (lit≤ tt) passed) (named_holds (table rows) us names) plan meets vouched),
        (λ _. vouched, λ _. refl),
      );
      answers = (refl, told, refl);
    }

    pub open_plans : Allowed → (limits.vouches (table rows) → ⊥) → Tightens means (day labels ss s us) (Shown.bounds (table rows) false) Open word (ones word)
    open_plans allowed unvouched = record {
      shows = (tight allowed, (λ e. absurd (false≢true e), λ v. absurd (unvouched v)));
      answers = (refl, told, refl);
    }
