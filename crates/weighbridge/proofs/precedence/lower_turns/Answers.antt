use Rattle.std.proofs.Common.{get_or, take, sym, subst}
use Rattle.std.proofs.lemmas.List.{map_more}
use Rattle.model.proofs.Narrowings.{narrowed_then}
use Rattle.model.specs.Narrowings.{Narrowed}
use Rattle.register.specs.Lookups.{what_of}
use Rattle.tables.specs.Views.{bounds_view, table_view}
use Rattle.weighbridge.proofs.Pushes.{turns_more}
use Rattle.weighbridge.proofs.Searches.{blank}
use Rattle.weighbridge.proofs.precedence.lower_turns.Goals as goal
use Rattle.weighbridge.specs.Crossings.{uses_of, Turns}

pub loop-a-preserved : goal.loop-a-preserved
loop-a-preserved c =
    let m = table_view c.args.table.now in
    let b = c.args.b in
    let xs = c.args.others.now in
    let n = c.loop-a.a-index in
    let start = bounds_view c.args.bounds.now in
    let before = bounds_view c.loop-a.bounds in
    let between = bounds_view c.lower_turn.new.bounds in
    let after = bounds_view c.lower_turn-in-loop-a.new.bounds in
    subst (λ us. Narrowed (Turns m us b) start after) (sym (map_more what_of xs n blank c.loop-a-test.true))
    (turns_more m (uses_of (take n xs)) (what_of (get_or xs n blank)) b start after
    (narrowed_then _ _ start before after c.loop-a.invariant (narrowed_then _ _ before between after c.lower_turn.ensures c.lower_turn-in-loop-a.ensures)))
