use Rattle.std.proofs.Common.{pos, sym, subst}
use Rattle.model.proofs.Narrowings.{narrowed_then}
use Rattle.model.specs.Narrowings.{Narrowed}
use Rattle.tables.proofs.Narrows.{One, narrowed_one}
use Rattle.tables.specs.Views.{bounds_view, table_view}
use Rattle.weighbridge.proofs.Pushes.{gives_last}
use Rattle.weighbridge.proofs.precedence.+lower_all.Goals as goal

pub returns-in-Some : goal.returns-in-Some
returns-in-Some t c =
    let m = table_view c.args.table.now in
    let u = c.in-Some.b.now.what in
    let start = bounds_view c.args.bounds.now in
    let before = bounds_view c.lower_all.new.bounds in
    let between = bounds_view c.lower.new.self in
    let after = bounds_view c.lower_turns.new.bounds in
    gives_last m c.args.uses.now c.in-Some.others.now c.in-Some.b.now c.in-Some.ensures.cases start after
    (narrowed_then _ _ start before after c.lower_all.ensures
    (narrowed_then _ _ before between after
    (subst (Narrowed (One u.last u.first (pos 0)) before) (sym c.lower.ensures) (narrowed_one before u.last u.first (pos 0)))
    c.lower_turns.ensures))
