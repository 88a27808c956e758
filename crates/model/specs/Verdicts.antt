-- The word for each verdict in the output of a day.
use Rattle.std.specs.Prelude.{ℕ, List, codes}
use Rattle.model.specs.declared.verdicts.Verdict.{Verdict}
use Rattle.model.specs.declared.verdicts.Verdict.TheVariants.{NoPlan, Open, AnyPlan}

abbrev pub word_of : Verdict → List ℕ
word_of NoPlan = codes "noplan"
word_of Open = codes "open"
word_of AnyPlan = codes "any"
