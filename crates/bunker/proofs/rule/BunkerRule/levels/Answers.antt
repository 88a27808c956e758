use Rattle.std.proofs.Common.{sym, arith}
use Rattle.bunker.proofs.Told.{levels_told_holds}
use Rattle.bunker.proofs.rule.BunkerRule.levels.Goals as goal
use Rattle.bunker.specs.Records.{uses_of}
use Rattle.model.specs.Uses.{standing}
use Rattle.register.proofs.Gathered.{standing_items}
use Rattle.register.specs.Standing.{stands}
use Rattle.std.proofs.lemmas.Int.{ints}
use Rattle.tables.specs.Views.{table_view}

pub returns : goal.returns
returns c =
    let b = c.args.self.now in
    levels_told_holds b.settings (uses_of b) (standing (stands b.uses)) (table_view c.args.table.now) c.args.at c.args.place _ _ (omega arith) (sym (standing_items b.uses)) (omega (arith, ints, c.profile.ensures.highest)) (omega (arith, ints, c.profile.ensures.lowest))
