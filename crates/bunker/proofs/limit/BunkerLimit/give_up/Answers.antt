use Rattle.bunker.proofs.Kept.{kept}
use Rattle.bunker.proofs.limit.BunkerLimit.give_up.Goals as goal
use Rattle.bunker.specs.Ranges.{Light}
use Rattle.register.specs.Standing.{stands}
use Rattle.std.proofs.Common.{is_ok, None}

pub invariant_of-self : goal.invariant_of-self
invariant_of-self c =
    let b = c.args.self.now in
    let light = kept Light (stands b.uses) (stands c.give_up_one.new.uses) _ c.args.number None b.light (is_ok c.give_up_one.result) c.give_up_one.ensures.uses (λ _. tt) in
    record { light = light }
