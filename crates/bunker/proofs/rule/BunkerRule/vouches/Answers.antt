use Rattle.std.proofs.Common.{Decides, sym, subst}
use Rattle.bunker.proofs.rule.BunkerRule.vouches.Goals as goal
use Rattle.bunker_laws.specs.Bunkers.{Vouches}
use Rattle.register.proofs.Gathered.{standing_items}
use Rattle.tables.specs.Views.{table_view}

pub returns : goal.returns
returns c =
    let b = c.args.self.now in
    subst (λ us. Decides c.approves.result (Vouches b.settings us (table_view c.args.table.now))) (sym (standing_items b.uses)) c.approves.ensures
