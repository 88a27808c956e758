-- A bunker whose uses are written as a list: what a closed table owes it, the levels that it tells, and a
-- computed test for the tables that it vouches for.
use Rattle.std.proofs.Common.{◌≡◌, ℕ, ◌<◌, ◌≤◌, Bool, true, false, ◌&&◌, ◌||◌, ◌⊎◌, List, length, ℤ, pos, ◌≤ℤ◌, Some, Ok, Option, Result, sym, ap, subst, inl, inr}
use lib.Signed.{le_z}
use Rattle.std.proofs.lemmas.Bool.{and_parts, or_cases, both_ways, cases_Bool}
use Rattle.model.specs.Closed.{Slips, Closed}
use Rattle.model.specs.Plans.{View}
use Rattle.model.specs.Uses.{In, standing, single}
use Rattle.model.specs.declared.moments.Moment.{Moment}
use Rattle.model.specs.declared.moments.Moment.TheVariants.{Point}
use Rattle.model.specs.declared.refusals.Refusal.{Refusal}
use Rattle.model.specs.declared.slips.Use.{Use}
use Rattle.bunker_laws.specs.Bunkers.{delivery, highest, lowest, meaning, Gives, Refuses, Vouches}
use Rattle.bunker_laws.specs.declared.settings.Settings.{Settings}
use Rattle.worked_days.proofs.Numbered.{standing_is}
use Rattle.worked_days.proofs.Tests.{le_from, all_in, each}
use Rattle.worked_days.specs.Forms.{numbered_from}

-- what a look at the levels is answered
abbrev levels_told : Settings → List Use → View → Moment → Result (Option (ℤ × ℤ)) Refusal
levels_told s us m x = Ok (Some (highest s us m x, lowest s us m x))

-- closed tables of a day with these uses
module _ (h n : ℕ) (slips : Slips) (s : Settings) (us : List Use) (few : length us ≤ 9999) (k : View) (closed : Closed h n slips (meaning s (single (numbered_from 1 us))) k) where
  fine : Refuses s us k → ⊥
  fine r = closed.not_refused (subst (λ l. Refuses s l k) (sym (standing_is us few)) r)

  bounded : (i j : ℕ) (b : ℤ) → i < n → j < n → Gives s us k i j b → k.at i j ≤ℤ b
  bounded i j b hi hj g = closed.bounded i j b hi hj (subst (λ l. Gives s l k i j b) (sym (standing_is us few)) g)

  -- a bound that k is sure of, or else owes: k is refused where it is sure of the contrary, and given the bound where it is not
  pub owes : (i j : ℕ) (b : ℤ) (sure contrary : Bool) → i < n → j < n → (sure ≡ true → k.at i j ≤ℤ b) → (sure ≡ false → contrary ≡ true → Refuses s us k) → (sure ≡ false → contrary ≡ false → Gives s us k i j b) → k.at i j ≤ℤ b
  owes i j b sure contrary hi hj held refused given = by (cases_Bool sure) (cases_Bool contrary)
    where
      by : (sure ≡ true) ⊎ (sure ≡ false) → (contrary ≡ true) ⊎ (contrary ≡ false) → k.at i j ≤ℤ b
      by (inl e) _ = held e
      by (inr e) (inl c) = absurd (fine (refused e c))
      by (inr e) (inr c) = bounded i j b hi hj (given e c)

-- ---- levels

pub levels_listed : (s : Settings) (us : List Use) (m : View) (x : Moment) → length us ≤ 9999 → levels_told s (standing (numbered_from 1 us)) m x ≡ levels_told s us m x
levels_listed s us m x few = ap (λ l. levels_told s l m x) (standing_is us few)

-- ---- vouching

module _ (s : Settings) (us : List Use) (m : View) where
  abbrev room_at : ℕ → Bool
  room_at p = le_z s.floor (lowest s us m (Point p)) && le_z (highest s us m (Point p)) s.roof

  abbrev ordered : Use → Bool
  ordered u = delivery u || le_z (m.at u.last u.first) (pos 0)

  abbrev clear : Use → Bool
  clear u = room_at u.first && (room_at u.last && ordered u)

  abbrev pub all_clear : Bool
  all_clear = all_in clear us

  room_from : (p : ℕ) → room_at p ≡ true → (s.floor ≤ℤ lowest s us m (Point p)) × (highest s us m (Point p) ≤ℤ s.roof)
  room_from p e =
      let parts = and_parts (le_z s.floor (lowest s us m (Point p))) (le_z (highest s us m (Point p)) s.roof) e in
      (le_from s.floor (lowest s us m (Point p)) parts.0, le_from (highest s us m (Point p)) s.roof parts.1)

  ordered_from : (u : Use) → ordered u ≡ true → delivery u ≡ false → m.at u.last u.first ≤ℤ pos 0
  ordered_from u e loan = by (or_cases (delivery u) (le_z (m.at u.last u.first) (pos 0)) e)
    where
      by : (delivery u ≡ true) ⊎ (le_z (m.at u.last u.first) (pos 0) ≡ true) → m.at u.last u.first ≤ℤ pos 0
      by (inl h) = absurd (both_ways (delivery u) loan h)
      by (inr h) = le_from (m.at u.last u.first) (pos 0) h

  module _ (passed : all_clear ≡ true) where
    first_clear : (u : Use) → In u us → (room_at u.first ≡ true) × ((room_at u.last && ordered u) ≡ true)
    first_clear u i = and_parts (room_at u.first) (room_at u.last && ordered u) (each clear us passed u i)

    last_clear : (u : Use) → In u us → (room_at u.last ≡ true) × (ordered u ≡ true)
    last_clear u i = and_parts (room_at u.last) (ordered u) (first_clear u i).1

    room : (u : Use) (p : ℕ) → In u us → (p ≡ u.first) ⊎ (p ≡ u.last) → (s.floor ≤ℤ lowest s us m (Point p)) × (highest s us m (Point p) ≤ℤ s.roof)
    room u p i (inl e) = rw e (room_from u.first (first_clear u i).0)
    room u p i (inr e) = rw e (room_from u.last (last_clear u i).0)

    pub vouched : length us ≤ 9999 → Vouches s (standing (numbered_from 1 us)) m
    vouched few = subst (λ l. Vouches s l m) (sym (standing_is us few)) (record { room = room; order = λ u i. ordered_from u (last_clear u i).1 })
