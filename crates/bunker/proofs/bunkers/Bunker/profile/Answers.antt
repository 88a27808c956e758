use Rattle.std.proofs.Common.{get_or, arith}
use Rattle.bunker.proofs.Worths.{front_levels, adds_high, adds_low}
use Rattle.bunker.proofs.Turns.{blank, turn, light_use}
use Rattle.bunker.proofs.bunkers.Bunker.profile.Goals as goal
use Rattle.std.proofs.lemmas.Int.{ints}
use Rattle.tables.specs.Views.{table_view}

pub options-requires : goal.options-requires
options-requires c =
    let b = c.args.self.now in
    light_use b _ (turn b c.as_slice-x-items.result.now c.loop-x.x-index c.as_slice-x-items.ensures.items c.loop-x-test.true).here

pub overflow_add-highest : goal.overflow_add-highest
overflow_add-highest c =
    let b = c.args.self.now in
    let xs = c.as_slice-x-items.result.now in
    let i = c.loop-x.x-index in
    let t = turn b xs i c.as_slice-x-items.ensures.items c.loop-x-test.true in
    let high = adds_high b (table_view c.args.here.table.now) c.args.here.at i (get_or xs i blank).what c.options.result t c.options.ensures _ c.levels-worths.ensures.highest in
    omega (arith, ints)

pub overflow_add-lowest : goal.overflow_add-lowest
overflow_add-lowest c =
    let b = c.args.self.now in
    let xs = c.as_slice-x-items.result.now in
    let i = c.loop-x.x-index in
    let t = turn b xs i c.as_slice-x-items.ensures.items c.loop-x-test.true in
    let low = adds_low b (table_view c.args.here.table.now) c.args.here.at i (get_or xs i blank).what c.options.result t c.options.ensures _ c.levels-worths.ensures.lowest in
    omega (arith, ints)

pub loop-x-preserved : goal.loop-x-preserved
loop-x-preserved c =
    let b = c.args.self.now in
    let xs = c.as_slice-x-items.result.now in
    let i = c.loop-x.x-index in
    let t = turn b xs i c.as_slice-x-items.ensures.items c.loop-x-test.true in
    let high = adds_high b (table_view c.args.here.table.now) c.args.here.at i (get_or xs i blank).what c.options.result t c.options.ensures _ c.levels-worths.ensures.highest in
    let low = adds_low b (table_view c.args.here.table.now) c.args.here.at i (get_or xs i blank).what c.options.result t c.options.ensures _ c.levels-worths.ensures.lowest in
    record { highest = omega (arith, ints); lowest = omega (arith, ints) }

pub invariant_of-result : goal.invariant_of-result
invariant_of-result c =
    let f = front_levels c.args.self.now (table_view c.args.here.table.now) c.args.here.at c.loop-x.x-index in
    record { deep = omega (arith, ints); order = omega (arith, ints); tall = omega (arith, ints) }
