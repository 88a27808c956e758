use Rattle.std.proofs.Common.{sym, subst}
use Rattle.dayfile.specs.Reading.{Sound}
use Rattle.dayfile.proofs.Sounds.{reads_sound}
use Rattle.dayfile.proofs.reading.days.read_day.Goals as goal

pub invariant_of-result : goal.invariant_of-result
invariant_of-result c = record { sound = subst Sound (sym c.in_ok-reading.ensures) (reads_sound c.args.files.bridge.now c.args.files.hall.now) }
