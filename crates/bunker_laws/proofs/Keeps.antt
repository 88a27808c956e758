-- A bunker keeps every plan that it allows: it neither refuses the table nor gives a bound that the plan breaks.
use Rattle.std.proofs.Common.{◌≡◌, ℕ, Bool, true, false, cond, List, ℤ, pos, ◌≤ℤ◌, refl, ⊎_elim, arith}
use Rattle.std.proofs.lemmas.Int.{ints}
use Rattle.std.proofs.lemmas.Bool.Decides.{nat_tests}
use Rattle.model.specs.Plans.{Plan, View, Within}
use Rattle.model.specs.Uses.{In}
use Rattle.model.specs.declared.moments.Moment.{Moment}
use Rattle.model.specs.declared.slips.Use.{Use}
use Rattle.bunker_laws.specs.declared.settings.Settings.{Settings}
use Rattle.bunker_laws.specs.Bunkers.{worth, active, level_at, Allows, minute_of, Looked, high, low, RuledOut, Follows, Gives, Refuses}
use Rattle.bunker_laws.proofs.Moments.{by_holds, after_holds, by_within, after_within}
use Rattle.bunker_laws.proofs.Options.{Meeting, adds, looked_within, adds_high, adds_low, level_high, level_low}
use Rattle.bunker_laws.proofs.Sums.{total_out}

module _ (s : Settings) (us : List Use) (m : View) (t : Plan) (g : Meeting us m t) (allows : Allows s us t) where
  pub not_refused_holds : Refuses s us m → ⊥
  not_refused_holds (Refuses.under x looked h) = omega (arith, ints, allows.room (minute_of t x) (looked_within us m t g x looked), level_high us m t g x s)
  not_refused_holds (Refuses.over x looked h) = omega (arith, ints, allows.room (minute_of t x) (looked_within us m t g x looked), level_low us m t g x s)
  not_refused_holds (Refuses.reversed u i loan h) =
      let l = g.has u i in
      omega (arith, ints, allows.order u i, g.meets u.first u.last l.0 l.1)

  module _ (x : Moment) (looked : Looked us x) (u : Use) (i : In u us) where
    -- the option that the plan takes is not ruled out
    not_taken : RuledOut s us m x u (adds t (minute_of t x) u) → ⊥
    not_taken r = ⊎_elim
        (λ h. let out = total_out us u (adds t (minute_of t x)) (high m x) i (adds_high us m t g x) in omega (arith, ints, room))
        (λ h. let out = total_out us u (low m x) (adds t (minute_of t x)) i (adds_low us m t g x) in omega (arith, ints, room))
        r.no_room
      where
        room : (s.floor ≤ℤ level_at s us t (minute_of t x)) × (level_at s us t (minute_of t x) ≤ℤ s.roof)
        room = allows.room (minute_of t x) (looked_within us m t g x looked)

    -- so it takes the other one
    is_active : RuledOut s us m x u (pos 0) → active t (minute_of t x) u ≡ true
    is_active r = other (active t (minute_of t x) u) not_taken
      where
        other : (b : Bool) → (RuledOut s us m x u (cond b (worth u) (pos 0)) → ⊥) → b ≡ true
        other true never = refl
        other false never = absurd (never r)

    is_idle : RuledOut s us m x u (worth u) → active t (minute_of t x) u ≡ false
    is_idle r = other (active t (minute_of t x) u) not_taken
      where
        other : (b : Bool) → (RuledOut s us m x u (cond b (worth u) (pos 0)) → ⊥) → b ≡ false
        other true never = absurd (never r)
        other false never = refl

    follows_within : (a z : ℕ) (b : ℤ) → Follows s us m x u a z b → Within t a z b
    follows_within a z b (Follows.starts r by) =
        let e = is_active r in
        by_within t u.first x a z b g.plan.opening by (grind (arith, nat_tests))
    follows_within a z b (Follows.lasts loan r after) =
        let e = is_active r in
        after_within t u.last x a z b g.plan.opening after (grind (arith, nat_tests))
    follows_within a z b (Follows.waits late r after) =
        let e = is_idle r in
        let l = after_holds m t u.last x g.sound g.plan.opening g.meets (g.has u i).1 in
        after_within t u.first x a z b g.plan.opening after (grind (arith, nat_tests))
    follows_within a z b (Follows.ends loan began r by) =
        let e = is_idle r in
        let l = by_holds m t u.first x g.sound g.plan.opening g.meets (g.has u i).0 began in
        by_within t u.last x a z b g.plan.opening by (grind (arith, nat_tests))

  pub gives_within : (a z : ℕ) (b : ℤ) → Gives s us m a z b → Within t a z b
  gives_within a z b (Gives.order u i loan a-is z-is b-is) = let l = allows.order u i in rw (a-is, z-is, b-is) (omega (arith, ints))
  gives_within a z b (Gives.follows x looked u i f) = follows_within x looked u i a z b f
