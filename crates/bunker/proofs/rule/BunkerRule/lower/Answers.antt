use Rattle.std.proofs.Common.{sym, subst}
use Rattle.bunker.proofs.rule.BunkerRule.lower.Goals as goal
use Rattle.bunker_laws.specs.Bunkers.{Gives}
use Rattle.model.specs.Narrowings.{Narrowed}
use Rattle.register.proofs.Gathered.{standing_items}
use Rattle.tables.specs.Views.{bounds_view, table_view}

pub returns : goal.returns
returns c =
    let b = c.args.self.now in
    subst (λ us. Narrowed (Gives b.settings us (table_view c.args.table.now)) (bounds_view c.args.bounds.now) (bounds_view c.propagate.new.bounds)) (sym (standing_items b.uses)) c.propagate.ensures
