-- The uses that stand in a bunker.
use Rattle.std.specs.Prelude.{List, map}
use Rattle.bunker.specs.declared.bunkers.Bunker.{Bunker}
use Rattle.model.specs.Uses.{Uses, single}
use Rattle.model.specs.declared.slips.Use.{Use}
use Rattle.register.specs.Lookups.{what_of}
use Rattle.register.specs.Standing.{items_of, stands}
use Rattle.bunker_laws.specs.declared.settings.Settings.{Settings}
use Rattle.model.specs.Plans.{View}
use Rattle.tables.specs.Views.{table_view}
use Rattle.tables.specs.declared.tables.Table.{Table}

-- all at its one place
abbrev pub bunker_uses : Bunker → Uses
bunker_uses b = single (stands b.uses)

-- by rising number
abbrev pub uses_of : Bunker → List Use
uses_of b = map what_of (items_of b.uses)

-- what F says of the settings and the uses of a bunker and of a table
abbrev pub told : {A : Type 1} → (Settings → List Use → View → A) → Bunker → Table → A
told F b t = F b.settings (uses_of b) (table_view t)
