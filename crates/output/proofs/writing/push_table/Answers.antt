use Rattle.std.proofs.Common.{◌≡◌, sym, refl, arith, w32, to_z, of_z}
use Rattle.std.proofs.lemmas.List.{take_all, append_assoc}
use Rattle.std.proofs.lemmas.Int.{ints}
use Rattle.output.proofs.Pieces.{has_name, lines_more, ok_pair, ok_err}
use Rattle.output.specs.Output.{earliest_of, latest_of}
use Rattle.texts.proofs.Cuts.{cut_front}
use Rattle.output.proofs.writing.push_table.Goals as goal

pub returns-in_err-earliest : goal.returns-in_err-earliest
returns-in_err-earliest g c = λ m any shown.
    let labels = c.labels-labels.result.now in
    absurd (ok_err c.minutes_of.result _ _ (c.minutes_of.ensures m any shown (has_name labels _ c.loop-point.point c.labels-labels.ensures c.loop-point-test.true)) c.in_err-earliest.was)

pub loop-point-preserved : goal.loop-point-preserved
loop-point-preserved g c = λ m any shown.
    let p = c.loop-point.point in
    let labels = c.labels-labels.result.now in
    let told = ok_pair c.minutes_of.result _ _ _ _ c.in_ok-earliest.was (c.minutes_of.ensures m any shown (has_name labels _ p c.labels-labels.ensures c.loop-point-test.true)) in
    let earliest : to_z w32 (of_z w32 c.in_ok-earliest.earliest) ≡ earliest_of m p = omega (arith, ints, told.0) in
    let latest : to_z w32 (of_z w32 c.in_ok-earliest.latest) ≡ latest_of m p = omega (arith, ints, told.1) in
    simp (c.push_point.ensures, c.loop-point.invariant m any shown, earliest, latest, lines_more m labels p c.index-labels-point.result c.loop-point-test.true, sym c.index-labels-point.is, cut_front, append_assoc)

pub returns : goal.returns
returns g c = λ m any shown. (
  refl,
  simp (c.push.ensures, c.loop-point.invariant m any shown, take_all c.loop-point.point c.labels-labels.result.now c.loop-point-test.false, c.labels-labels.ensures, cut_front, append_assoc),
)
