-- What the tests on levels decide.
use Rattle.std.proofs.Common.{◌≡◌, Bool, true, ◌⊎◌, List, ℤ, ◌+ℤ◌, ◌-ℤ◌, ◌≤ℤ◌, ◌<ℤ◌, Decides, ◌∙◌, ap₂, arith}
use lib.Signed.{le_z, lt_z}
use Rattle.bunker.proofs.Worths.{leaves_high, leaves_low}
use Rattle.bunker.specs.Choices.{high_of, low_of, Leaves}
use Rattle.bunker.specs.declared.options.Options.{Options}
use Rattle.bunker.specs.Rooms.{missed, within, AreLevels, NoRoom, Room}
use Rattle.bunker_laws.specs.Bunkers.{worth, can_be_active, can_be_idle, highest, lowest, RuledOut}
use Rattle.bunker_laws.specs.declared.settings.Settings.{Settings}
use Rattle.model.specs.Plans.{View}
use Rattle.model.specs.declared.moments.Moment.{Moment}
use Rattle.model.specs.declared.slips.Use.{Use}
use Rattle.std.proofs.lemmas.Int.{ints}
use Rattle.std.proofs.lemmas.Bool.Decides.{Decides-and, Decides-or, Decides-at, Decides-like}

decides_lt : (a b : ℤ) → Decides (lt_z a b) (a <ℤ b)
decides_lt a b = (λ h. grind (arith, ints), λ h. grind (arith, ints))

decides_le : (a b : ℤ) → Decides (le_z a b) (a ≤ℤ b)
decides_le a b = (λ h. grind (arith, ints), λ h. grind (arith, ints))

decides_true : (b : Bool) → Decides b (b ≡ true)
decides_true b = (λ h. h, λ h. h)

missed_decides : (s : Settings) (h l : ℤ) → Decides (missed s h l) ((h <ℤ s.floor) ⊎ (s.roof <ℤ l))
missed_decides s h l = Decides-or (lt_z h s.floor) (lt_z s.roof l) (decides_lt h s.floor) (decides_lt s.roof l)

within_decides : (s : Settings) (h l : ℤ) → Decides (within s h l) ((s.floor ≤ℤ l) × (h ≤ℤ s.roof))
within_decides s h l = Decides-and (le_z s.floor l) (le_z h s.roof) (decides_le s.floor l) (decides_le h s.roof)

-- the levels at a moment
module _ (s : Settings) (us : List Use) (m : View) (x : Moment) (r : Bool) (h l : ℤ) (told : AreLevels s us m x h l) where
  pub no_room_told : r ≡ missed s h l → Decides r (NoRoom s us m x)
  no_room_told e = Decides-at r _ (e ∙ ap₂ (missed s) told.highest told.lowest) (missed_decides s (highest s us m x) (lowest s us m x))

  pub room_told : r ≡ within s h l → Decides r (Room s us m x)
  room_told e = Decides-at r _ (e ∙ ap₂ (within s) told.highest told.lowest) (within_decides s (highest s us m x) (lowest s us m x))

-- an option of a use that has both, where these are the levels at the moment
module _ (s : Settings) (us : List Use) (m : View) (x : Moment) (u : Use) (high low : ℤ) (told : AreLevels s us m x high low) (o : Options) (left : Leaves o (can_be_active m x u) (can_be_idle m x u) (worth u)) (a : can_be_active m x u ≡ true) (i : can_be_idle m x u ≡ true) where
  pub ruled_out_told : (r : Bool) (v k : ℤ) → v ≡ k → r ≡ missed s ((high -ℤ high_of o) +ℤ v) ((low -ℤ low_of o) +ℤ v) → Decides r (RuledOut s us m x u k)
  ruled_out_told r v k same e =
      let up = ap₂ ◌+ℤ◌ (ap₂ ◌-ℤ◌ told.highest (leaves_high o _ _ _ left)) same in
      let down = ap₂ ◌+ℤ◌ (ap₂ ◌-ℤ◌ told.lowest (leaves_low o _ _ _ left)) same in
      Decides-like r
      (λ n. record { active_open = a; idle_open = i; no_room = n })
      (λ q. q.no_room)
      (Decides-at r _ (e ∙ ap₂ (missed s) up down) (missed_decides s _ _))
