use Rattle.std.proofs.Common.{[], ◌∷◌, ◌++◌, vec_items, sym, refl, ap, ◌∙◌}
use Rattle.std.proofs.lemmas.Result.{err_from_is_err_and}
use Rattle.dayfile.specs.Views.{read_of}
use Rattle.runs.specs.declared.calls.Call.TheVariants.{Tighten}
use Rattle.planning.proofs.Ends.{unmade_end, same_fault, refused_end, written, unwritten}
use Rattle.planning.proofs.plans.plan_reading.Goals as goal

pub returns-in_err-first : goal.returns-in_err-first
returns-in_err-first c =
    let p = err_from_is_err_and c.from_residual.result c.from_residual.ensures.1 in
    rw (p.1, p.2) (unmade_end (read_of c.args.day.reading) c.args.buffer.now _ c.in_err-first.ensures)

pub returns-in-Some : goal.returns-in-Some
returns-in-Some c =
    let r = read_of c.args.day.reading in
    let calls = vec_items c.args.day.reading.calls in
    let x = c.in_ok-played.played in
    let played = c.in_ok-played.ensures in
    let same = same_fault r (read_of c.play_reading.new.reading) x.told.refused (ap vec_items played.places) played.fault in
    (refl, refused_end r c.in_ok-first.first c.in_ok-first.second c.in_ok-first.ensures calls refl (calls ++ Tighten ∷ []) refl x played.played c.in-Some.fault (sym same ∙ sym c.in-Some.ensures))

pub returns-in_err-len : goal.returns-in_err-len
returns-in_err-len c =
    let r = read_of c.args.day.reading in
    let calls = vec_items c.args.day.reading.calls in
    let x = c.in_ok-played.played in
    let played = c.in_ok-played.ensures in
    let same = same_fault r (read_of c.play_reading.new.reading) x.told.refused (ap vec_items played.places) played.fault in
    let p = err_from_is_err_and c.from_residual-in_err-len.result c.from_residual-in_err-len.ensures.1 in
    rw (p.1, p.2)
    (unwritten r c.in_ok-first.first c.in_ok-first.second c.in_ok-first.ensures calls refl (calls ++ Tighten ∷ []) refl x played.played c.in_err-len.field-0.0 c.args.buffer.now c.write_day.new.buffer c.args.day.sound (sym same ∙ sym c.in_default.ensures) c.in_err-len.ensures)

pub returns : goal.returns
returns c =
    let r = read_of c.args.day.reading in
    let calls = vec_items c.args.day.reading.calls in
    let x = c.in_ok-played.played in
    let played = c.in_ok-played.ensures in
    let same = same_fault r (read_of c.play_reading.new.reading) x.told.refused (ap vec_items played.places) played.fault in
    written r c.in_ok-first.first c.in_ok-first.second c.in_ok-first.ensures calls refl (calls ++ Tighten ∷ []) refl x played.played c.in_ok-len.len c.args.buffer.now c.write_day.new.buffer c.args.day.sound (sym same ∙ sym c.in_default.ensures) c.in_ok-len.ensures
