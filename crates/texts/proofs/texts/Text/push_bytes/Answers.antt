use Rattle.std.proofs.Common.{◌+◌, ◌≤◌, length, take, Ok, Err, Result, arith}
use Rattle.std.proofs.lemmas.List.{length-take, take_min}
use Rattle.std.specs.Result.{IsOk, OnOk}
use Rattle.texts.proofs.Cuts.{cut_room}
use Rattle.texts.proofs.texts.Text.push_bytes.Goals as goal

on_ok : {T E P : Type 0} (r : Result T E) → IsOk r → OnOk r P → P
on_ok (Ok x) ok p = p
on_ok (Err why) ok p = cc

pub returns : goal.returns
returns c =
    let old = c.self.inside.bytes.items in
    let bytes = c.args.bytes.now in
    let room = c.remaining_capacity-room.result in
    let extend = c.try_extend_from_slice in
    let fits : length old + length (take c.min.result bytes) ≤ 1536 = simp length-take (grind arith) in
    let appended = on_ok extend.result (extend.ensures.variant.1 fits) extend.ensures.ok in
    rw (← c.self.view_is, appended, c.min.ensures, take_min) (cut_room old bytes room c.remaining_capacity-room.ensures)
