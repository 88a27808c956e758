-- What the limits of a day mean.
use Rattle.model.specs.Meanings.{Meaning}
use Rattle.rules.specs.declared.rule.Rule.{Ghosts}

-- by their settings and standing uses
abbrev pub meaning_of : {L S : Type 0} → Ghosts L S → L → Meaning
meaning_of rule x = rule.meaning (rule.settings x) (rule.uses x)
