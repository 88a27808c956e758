use Rattle.std.proofs.Common.{rules, tests, refl, arith}
use Rattle.bunker.proofs.AlikeMinutes.{decides_no_room}
use Rattle.bunker.proofs.bunkers.Bunker.lacks_room_at_minute.Goals as goal

pub returns : goal.returns
returns c =
    let e = c.stretches.ensures in
    let ran = c.any.ensures.ran in
    decides_no_room c.args.self.now c.args.table.now _ _ (λ x q k. search (rules, tests)) (λ x q k. search (rules, tests)) c.any.result ran.0 ran.1 _ ran.3.0 _ _ ran.2 e.bunker e.table refl (λ w. omega arith) ran.3.1 ran.3.2 ran.4 ran.5
