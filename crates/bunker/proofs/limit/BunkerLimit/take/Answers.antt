use Rattle.std.proofs.Common.{is_ok, Some, sym, ◌∙◌}
use Rattle.bunker.proofs.Kept.{kept, taken_formed, formed_light}
use Rattle.bunker.proofs.limit.BunkerLimit.take.Goals as goal
use Rattle.bunker.specs.Ranges.{Light}
use Rattle.model.specs.Limits.{at_first}
use Rattle.model.specs.Uses.{single}
use Rattle.register.specs.Standing.{stands}

pub invariant_of-self : goal.invariant_of-self
invariant_of-self c =
    let b = c.args.self.now in
    let before = stands b.uses in
    let place = c.args.place in
    let number = c.args.number in
    let what = c.args.what in
    let fits = c.moves_kilos.result in
    let light = kept Light before (stands c.take_one.new.uses) place number (Some what) b.light (is_ok c.take_one.result) c.take_one.ensures.uses
    (λ h. formed_light what (sym c.moves_kilos.ensures ∙ taken_formed 1 (at_first 32 0) fits (single before) place number what c.take_one.result c.take_one.ensures.answer h)) in
    record { light = light }
