use Rattle.std.proofs.Common.{◌∙◌, ap₂, arith}
use Rattle.bunker.proofs.Worths.{high_small, low_small}
use Rattle.bunker.proofs.profile.Profile.rules_out.Goals as goal
use Rattle.bunker.specs.Rooms.{missed}
use Rattle.std.proofs.lemmas.Int.{ints}

pub overflow_sub-highest : goal.overflow_sub-highest
overflow_sub-highest c = let h = high_small c.args.options in omega (arith, ints)

pub overflow_add-highest : goal.overflow_add-highest
overflow_add-highest c = let h = high_small c.args.options in omega (arith, ints)

pub overflow_sub-lowest : goal.overflow_sub-lowest
overflow_sub-lowest c = let l = low_small c.args.options in omega (arith, ints)

pub overflow_add-lowest : goal.overflow_add-lowest
overflow_add-lowest c = let l = low_small c.args.options in omega (arith, ints)

pub returns : goal.returns
returns c =
    let h = high_small c.args.options in
    let l = low_small c.args.options in
    c.miss.ensures ∙ ap₂ (missed c.args.settings) (omega (arith, ints)) (omega (arith, ints))
