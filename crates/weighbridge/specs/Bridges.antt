-- The uses that a weighbridge takes, and those that stand in one.
use Rattle.std.specs.Prelude.{Bool, not, ◌&&◌, ◌==◌}
use Rattle.model.specs.Limits.{is_zero}
use Rattle.model.specs.Uses.{Uses, single}
use Rattle.model.specs.declared.slips.Use.{Use}
use Rattle.register.specs.Standing.{stands}
use Rattle.weighbridge.specs.declared.weighbridges.Weighbridge.{Weighbridge}

-- a crossing has no kilos, and two different points
abbrev pub crossing : Use → Bool
crossing u = is_zero u.kilos && not (u.first == u.last)

-- the uses that stand in a bridge, all at its one place
abbrev pub bridge_uses : Weighbridge → Uses
bridge_uses w = single (stands w.uses)
