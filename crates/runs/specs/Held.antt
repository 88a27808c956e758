-- Days whose slips and uses name points that the day has.
use Rattle.std.specs.Prelude.{◌<◌}
use Rattle.model.specs.Closed.{SlipsHeld}
use Rattle.promise_laws.specs.Held.{UsesHeld}
use Rattle.runs.specs.Days.{Day, points}

-- each standing slip and use names points of the day, and there is a point
pub record Held {S : Type 0} (d : Day S) : Type 0 where
  pub slips : SlipsHeld (points d) d.slips
  pub uses : UsesHeld (points d) d.uses
  pub some : 0 < points d
