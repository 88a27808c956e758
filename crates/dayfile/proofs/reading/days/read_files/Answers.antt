use Rattle.std.proofs.Common.{map, ap, ◌∙◌, arith}
use Rattle.dayfile.specs.Reading.{read_lines}
use Rattle.dayfile.specs.Views.{read_of}
use Rattle.dayfile.proofs.Orders.{in_order}
use Rattle.dayfile.proofs.reading.days.read_files.Goals as goal

pub returns : goal.returns
returns c =
    let bridge = ap (map (λ x. x.now)) c.as_slice-2.ensures.value ∙ c.in_ok-bridge.ensures in
    let hall = ap (map (λ x. x.now)) c.as_slice.ensures.value ∙ c.in_ok-hall.ensures in
    in_order c.as_slice.result.now c.split_at.result.0.now c.split_at.result.1.now c.min.result (omega arith) c.split_at.ensures.front c.split_at.ensures.back c.as_slice-2.result.now
    (read_of c.in_ok-reading.reading) (read_of c.read_lines.new.self) (read_of c.read_lines-2.new.self) (read_of c.read_lines-3.new.self)
    c.in_ok-reading.ensures c.in_ok-read_lines.ensures c.in_ok-read_lines-2.ensures c.in_ok-read_lines-3.ensures
    ∙ (ap (λ b. read_lines b (map (λ x. x.now) c.as_slice.result.now)) bridge ∙ ap (read_lines _) hall)
