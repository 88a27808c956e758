-- The limits of a yard: two bunkers and a weighbridge.
use Rattle.std.specs.Prelude.{◌≡◌}
use Rattle.bunker.specs.Ranges.{moves_kilos}
use Rattle.bunker.specs.Records.{bunker_uses}
use Rattle.bunker.specs.declared.bunkers.Bunker.{Bunker}
use Rattle.bunker_laws.specs.Bunkers.{meaning as bunkerMeaning}
use Rattle.bunker_laws.specs.declared.settings.Settings.{Settings}
use Rattle.model.specs.Limits.{at_first, of_part}
use Rattle.model.specs.Meanings.{Meaning, both}
use Rattle.model.specs.Uses.{Uses, none, joined, front, back}
use Rattle.rules.specs.declared.pair.Pair.{Pair}
use Rattle.runs.specs.Days.{Takes}
use Rattle.weighbridge.specs.Bridges.{bridge_uses, crossing}
use Rattle.weighbridge.specs.declared.weighbridges.Weighbridge.{Weighbridge}
use Rattle.weighbridge_laws.specs.Weighbridges.{meaning as bridgeMeaning}

abbrev pub Limits : Type 0
Limits = Pair Bunker (Pair Bunker Weighbridge)

-- the settings of the two bunkers; the weighbridge has none
abbrev pub LimitSettings : Type 0
LimitSettings = Settings × (Settings × Unit)

abbrev pub settings_of : Limits → LimitSettings
settings_of y = (y.left.settings, (y.right.left.settings, tt))

-- the uses by place: 0 and 1 are the bunkers', 2 the weighbridge's
abbrev pub uses_of : Limits → Uses
uses_of y = joined 1 (bunker_uses y.left) (joined 1 (bunker_uses y.right.left) (bridge_uses y.right.right))

-- which uses they take: 32 that move kilos in each bunker, 16 crossings of the weighbridge
abbrev pub takes : Takes LimitSettings
takes = record {
  width = λ s. 3;
  most = λ s. of_part 1 (at_first 32 0) (of_part 1 (at_first 32 0) (at_first 16 0));
  form = λ s. of_part 1 (λ place. moves_kilos) (of_part 1 (λ place. moves_kilos) (λ place. crossing));
}

-- what they mean together
abbrev pub means : LimitSettings → Uses → Meaning
means s us = both 1 (bunkerMeaning s.0 (front 1 us)) (both 1 (bunkerMeaning s.1.0 (front 1 (back 1 us))) (bridgeMeaning (back 1 (back 1 us))))

-- two bunkers of these settings, by floor, roof and start
pub record Alike (s z : Settings) : Type 0 where
  pub floor : z.floor ≡ s.floor
  pub roof : z.roof ≡ s.roof
  pub start : z.start ≡ s.start

pub record Built (first second : Settings) (y : Limits) : Type 0 where
  pub left : Alike first (settings_of y).0
  pub right : Alike second (settings_of y).1.0
  pub uses : uses_of y ≡ none
