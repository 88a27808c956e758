use Rattle.std.proofs.Common.{◌≡◌, true, false, rules}
use Rattle.std.specs.Prelude.{◌==◌}
use Rattle.std.proofs.lemmas.Iterator.{IsFirst-from_position, YieldsList-from_slice}
use Rattle.dayline.proofs.Pieces.{cut_at, uncut}
use Rattle.dayline.proofs.parts.cut.Goals as goal
use borrow.Author.Tests.{tests}

pub returns-in_err-place : goal.returns-in_err-place
returns-in_err-place c =
    let at = c.args.at in
    let text = c.args.text.now in
    let first = IsFirst-from_position _ _ c.position.result (λ b. b == at ≡ true) (λ b. b == at ≡ false) c.position.ensures.ran (YieldsList-from_slice text cc) (λ x q k. search (rules, tests)) (λ x q k. search (rules, tests)) in
    rw c.from_residual.ensures (uncut at text (rw c.in_err-place.was at first))

pub returns : goal.returns
returns c =
    let at = c.args.at in
    let text = c.args.text.now in
    let first = IsFirst-from_position _ _ c.position.result (λ b. b == at ≡ true) (λ b. b == at ≡ false) c.position.ensures.ran (YieldsList-from_slice text cc) (λ x q k. search (rules, tests)) (λ x q k. search (rules, tests)) in
    let here = rw c.in_ok-place.was at first in
    cut_at at text c.in_ok-place.place here.0 here.1 here.2
