use Rattle.std.proofs.Common.{arith, rules}
use Rattle.dayfile.specs.Views.{read_of}
use Rattle.planning.proofs.Unmade.{unmade_end}
use Rattle.planning.proofs.bunkers.both_settings.Goals as goal

pub returns-in_default : goal.returns-in_default
returns-in_default c =
    unmade_end (read_of c.args.day.now.reading) c.bunker_at.result c.bunker_at-2.result (search rules) (search rules) (grind arith) _ _ (grind arith) (grind arith) _ c.not_made.ensures
