-- Of a tighter table a bunker tells no less: it refuses what it refused, and gives bounds as low.
use Rattle.std.proofs.Common.{◌≡◌, ℕ, Bool, true, false, cond, ◌⊎◌, List, ℤ, pos, ◌+ℤ◌, ◌-ℤ◌, ◌≤ℤ◌, ◌<ℤ◌, inl, inr, ⊎_elim, arith}
use lib.Signed.{≤ℤ_refl}
use Rattle.std.specs.Int.{int_max, int_min}
use Rattle.std.proofs.lemmas.Int.{ints}
use Rattle.std.proofs.lemmas.Bool.{cases_Bool}
use Rattle.model.specs.Plans.{View, Sound, Tighter}
use Rattle.model.specs.Uses.{In}
use Rattle.model.specs.declared.moments.Moment.{Moment}
use Rattle.model.specs.declared.slips.Use.{Use}
use Rattle.bunker_laws.specs.declared.settings.Settings.{Settings}
use Rattle.bunker_laws.specs.Bunkers.{worth, sure_by, sure_after, Looked, can_be_active, can_be_idle, high, low, highest, lowest, RuledOut, Follows, Gives, Refuses}
use Rattle.bunker_laws.proofs.Moments.{by_tighter, after_tighter, never_both, by_entry, after_entry}
use Rattle.bunker_laws.proofs.Options.{Has}
use Rattle.bunker_laws.proofs.Sums.{total_le, total_out}

-- ---- options

-- for the use u at x: m is sure of what n is sure of, and never of both
record Surer (m n : View) (x : Moment) (u : Use) : Type 0 where
  first_by : sure_by n u.first x ≡ true → sure_by m u.first x ≡ true
  first_after : sure_after n u.first x ≡ true → sure_after m u.first x ≡ true
  last_by : sure_by n u.last x ≡ true → sure_by m u.last x ≡ true
  last_after : sure_after n u.last x ≡ true → sure_after m u.last x ≡ true
  first_one : sure_by m u.first x ≡ true → sure_after m u.first x ≡ true → ⊥
  last_one : sure_by m u.last x ≡ true → sure_after m u.last x ≡ true → ⊥

-- what is open in m is open in n, and m leaves an option open
record Fewer (active idle active' idle' : Bool) : Type 0 where
  stays_active : active ≡ true → active' ≡ true
  stays_idle : idle ≡ true → idle' ≡ true
  some : active ≡ false → idle ≡ true

fewer : (m n : View) (x : Moment) (u : Use) → Surer m n x u → Fewer (can_be_active m x u) (can_be_idle m x u) (can_be_active n x u) (can_be_idle n x u)
fewer m n x u f = record { stays_active = λ h. grind arith; stays_idle = λ h. grind arith; some = λ h. grind arith }

fewer_high : (active idle active' idle' : Bool) (w : ℤ) → Fewer active idle active' idle' → cond active (cond idle (int_max w (pos 0)) w) (pos 0) ≤ℤ cond active' (cond idle' (int_max w (pos 0)) w) (pos 0)
fewer_high active idle active' idle' w f = grind (arith, ints)

fewer_low : (active idle active' idle' : Bool) (w : ℤ) → Fewer active idle active' idle' → cond active' (cond idle' (int_min w (pos 0)) w) (pos 0) ≤ℤ cond active (cond idle (int_min w (pos 0)) w) (pos 0)
fewer_low active idle active' idle' w f = grind (arith, ints)

-- ---- the tables m and n

module _ (s : Settings) (us : List Use) (m n : View) (sm : Sound m) (sn : Sound n) (has : Has us m) (tight : Tighter m n) where
  surer : (x : Moment) (u : Use) → In u us → Surer m n x u
  surer x u i = record {
    first_by = by_tighter m n u.first x sm sn tight (has u i).0;
    first_after = after_tighter m n u.first x sm sn tight (has u i).0;
    last_by = by_tighter m n u.last x sm sn tight (has u i).1;
    last_after = after_tighter m n u.last x sm sn tight (has u i).1;
    first_one = never_both m u.first x sm (has u i).0;
    last_one = never_both m u.last x sm (has u i).1;
  }

  lower_high : (x : Moment) (u : Use) → In u us → high m x u ≤ℤ high n x u
  lower_high x u i = fewer_high (can_be_active m x u) (can_be_idle m x u) (can_be_active n x u) (can_be_idle n x u) (worth u) (fewer m n x u (surer x u i))

  higher_low : (x : Moment) (u : Use) → In u us → low n x u ≤ℤ low m x u
  higher_low x u i = fewer_low (can_be_active m x u) (can_be_idle m x u) (can_be_active n x u) (can_be_idle n x u) (worth u) (fewer m n x u (surer x u i))

  pub refuses_too : Refuses s us n → Refuses s us m
  refuses_too (Refuses.under x looked h) = Refuses.under x looked (omega (arith, ints, total_le us (high m x) (high n x) (lower_high x)))
  refuses_too (Refuses.over x looked h) = Refuses.over x looked (omega (arith, ints, total_le us (low n x) (low m x) (higher_low x)))
  refuses_too (Refuses.reversed u i loan h) =
      let l = has u i in
      Refuses.reversed u i loan (omega (arith, ints, tight.below u.first u.last l.0 l.1))

  -- the table m leaves no room for the option of worth w
  abbrev NoRoom : Moment → Use → ℤ → Type 0
  NoRoom x u w = (((highest s us m x -ℤ high m x u) +ℤ w) <ℤ s.floor) ⊎ (s.roof <ℤ ((lowest s us m x -ℤ low m x u) +ℤ w))

  no_room_too : (x : Moment) (u : Use) (w : ℤ) → In u us → RuledOut s us n x u w → NoRoom x u w
  no_room_too x u w i r = ⊎_elim
      (λ h. let out = total_out us u (high m x) (high n x) i (lower_high x) in inl (omega (arith, ints)))
      (λ h. let out = total_out us u (low n x) (low m x) i (higher_low x) in inr (omega (arith, ints)))
      r.no_room

  -- where no other option is open, the table is refused
  refused_by : (x : Moment) (u : Use) (w : ℤ) → Looked us x → high m x u ≡ w → low m x u ≡ w → NoRoom x u w → Refuses s us m
  refused_by x u w looked h l (inl r) = Refuses.under x looked (omega (arith, ints))
  refused_by x u w looked h l (inr r) = Refuses.over x looked (omega (arith, ints))

  module _ (fine : Refuses s us m → ⊥) (x : Moment) (looked : Looked us x) (u : Use) (i : In u us) where
    -- the option is ruled out of m too, or closed in it
    idle_ruled : RuledOut s us n x u (pos 0) → RuledOut s us m x u (pos 0) ⊎ (can_be_idle m x u ≡ false)
    idle_ruled r = ⊎_elim
        (λ a. ⊎_elim (λ o. inl (record { active_open = a; idle_open = o; no_room = no_room_too x u (pos 0) i r })) inr (cases_Bool (can_be_idle m x u)))
        (λ a. absurd (fine (refused_by x u (pos 0) looked (grind arith) (grind arith) (no_room_too x u (pos 0) i r))))
        (cases_Bool (can_be_active m x u))

    active_ruled : RuledOut s us n x u (worth u) → RuledOut s us m x u (worth u) ⊎ (can_be_active m x u ≡ false)
    active_ruled r = ⊎_elim
        (λ a. ⊎_elim
        (λ o. inl (record { active_open = a; idle_open = o; no_room = no_room_too x u (worth u) i r }))
        (λ o. absurd (fine (refused_by x u (worth u) looked (grind arith) (grind arith) (no_room_too x u (worth u) i r))))
        (cases_Bool (can_be_idle m x u)))
        inr
        (cases_Bool (can_be_active m x u))

    -- so the bound follows again, or is an entry
    follows_too : (a z : ℕ) (b : ℤ) → Follows s us n x u a z b → (m.at a z ≤ℤ b) ⊎ Follows s us m x u a z b
    follows_too a z b (Follows.starts r by) = ⊎_elim
        (λ r'. inr (Follows.starts r' by))
        (λ shut. inl (by_entry m u.first x a z b by (grind arith)))
        (idle_ruled r)
    follows_too a z b (Follows.lasts loan r after) = ⊎_elim
        (λ r'. inr (Follows.lasts loan r' after))
        (λ shut. inl (after_entry m u.last x a z b after (grind arith)))
        (idle_ruled r)
    follows_too a z b (Follows.waits late r after) = let f = surer x u i in ⊎_elim
        (λ r'. inr (Follows.waits (grind arith) r' after))
        (λ shut. inl (after_entry m u.first x a z b after (grind arith)))
        (active_ruled r)
    follows_too a z b (Follows.ends loan began r by) = let f = surer x u i in ⊎_elim
        (λ r'. inr (Follows.ends loan (f.first_by began) r' by))
        (λ shut. inl (by_entry m u.last x a z b by (grind arith)))
        (active_ruled r)

  pub gives_too : (Refuses s us m → ⊥) → (a z : ℕ) (b : ℤ) → Gives s us n a z b → (m.at a z ≤ℤ b) ⊎ ((c : ℤ) × Gives s us m a z c × (c ≤ℤ b))
  gives_too fine a z b (Gives.order u i loan a-is z-is b-is) = inr (b, Gives.order u i loan a-is z-is b-is, ≤ℤ_refl b)
  gives_too fine a z b (Gives.follows x looked u i f) = ⊎_elim inl (λ f'. inr (b, Gives.follows x looked u i f', ≤ℤ_refl b)) (follows_too fine x looked u i a z b f)
