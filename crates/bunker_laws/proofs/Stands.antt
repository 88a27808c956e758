-- A bunker that vouches for a table allows each plan that meets it.
use Rattle.std.proofs.Common.{◌≡◌, ℕ, zero, suc, ◌≤◌, Bool, true, false, ◌||◌, eqb, ◌⊎◌, List, ◌+ℤ◌, ◌≤ℤ◌, refl, ap, subst, inl, inr, ⊎_elim, arith}
use Rattle.std.proofs.lemmas.Int.{ints}
use Rattle.std.proofs.lemmas.Bool.{cases_Bool, or_cases, eqb-true}
use Rattle.std.proofs.lemmas.Bool.Decides.{nat_tests}
use Rattle.model.specs.Plans.{Plan, View}
use Rattle.model.specs.Uses.{In}
use Rattle.model.specs.declared.moments.Moment.TheVariants.{Point}
use Rattle.model.specs.declared.slips.Use.{Use}
use Rattle.bunker_laws.specs.declared.settings.Settings.{Settings}
use Rattle.bunker_laws.specs.Bunkers.{delivery, level_at, Allows, Vouches}
use Rattle.bunker_laws.proofs.Options.{Meeting, adds, level_high, level_low}
use Rattle.bunker_laws.proofs.Sums.{total_same, total_zero, search_uses}

-- does a point of the use lie at minute k?
abbrev touches : Plan → ℕ → Use → Bool
touches t k u = eqb (t u.first) k || eqb (t u.last) k

-- no point of a use does
abbrev Quiet : List Use → Plan → ℕ → Type 0
Quiet us t k = (u : Use) → In u us → touches t k u ≡ false

module _ (s : Settings) (us : List Use) (t : Plan) where
  abbrev Room : ℕ → Type 0
  Room k = (s.floor ≤ℤ level_at s us t k) × (level_at s us t k ≤ℤ s.roof)

  -- before any point the level is the start
  quiet_start : Quiet us t 0 → level_at s us t 0 ≡ s.start
  quiet_start quiet = let e = total_zero us (adds t 0) (λ u i. let q = quiet u i in grind (arith, nat_tests)) in omega (arith, ints)

  -- and at a minute with no point that of the minute before
  quiet_step : (k : ℕ) → Quiet us t (suc k) → level_at s us t (suc k) ≡ level_at s us t k
  quiet_step k quiet = ap (λ z. s.start +ℤ z) (total_same us (adds t (suc k)) (adds t k) (λ u i. let q = quiet u i in grind (arith, nat_tests)))

module _ (s : Settings) (us : List Use) (m : View) (t : Plan) (g : Meeting us m t) (vouches : Vouches s us m) where
  -- at a point of a use the bunker has vouched for the level
  point_room : (u : Use) (p : ℕ) → In u us → (p ≡ u.first) ⊎ (p ≡ u.last) → Room s us t (t p)
  point_room u p i e =
      let v = vouches.room u p i e in
      let h = level_high us m t g (Point p) s in
      let l = level_low us m t g (Point p) s in
      (omega (arith, ints), omega (arith, ints))

  touched_room : (k : ℕ) (u : Use) → In u us → touches t k u ≡ true → Room s us t k
  touched_room k u i h = ⊎_elim
      (λ e. subst (Room s us t) (eqb-true (t u.first) k e) (point_room u u.first i (inl refl)))
      (λ e. subst (Room s us t) (eqb-true (t u.last) k e) (point_room u u.last i (inr refl)))
      (or_cases (eqb (t u.first) k) (eqb (t u.last) k) h)

  room_at : (k : ℕ) → Room s us t k
  room_at zero = ⊎_elim (λ w. touched_room 0 w.0 w.1 w.2) (λ q. let e = quiet_start s us t q in (omega (arith, ints), omega (arith, ints))) (search_uses us (touches t 0))
  room_at (suc k) = ⊎_elim (λ w. touched_room (suc k) w.0 w.1 w.2) (λ q. let e = quiet_step s us t k q in let r = room_at k in (omega (arith, ints), omega (arith, ints))) (search_uses us (touches t (suc k)))

  order : (u : Use) → In u us → t u.first ≤ t u.last
  order u i = ⊎_elim
      (λ d. let e = ap t (eqb-true u.first u.last d) in omega arith)
      (λ d. omega (arith, ints, vouches.order u i d, g.meets u.last u.first (g.has u i).1 (g.has u i).0))
      (cases_Bool (delivery u))

  pub vouched_allows : Allows s us t
  vouched_allows = record { room = λ k l. room_at k; order = order }
