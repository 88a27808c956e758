-- What `any` and `all` over numbered uses have found.
use Rattle.std.proofs.Common.{◌≡◌, ℕ, suc, ◌<◌, Bool, true, false, List, [], ◌∷◌, length, get_or, pos, MatchBool, Decides, refl, sym, subst, inl, inr, arith}
use Rattle.std.proofs.lemmas.Bool.{false≢true}
use Rattle.model.proofs.Members.{in_at}
use Rattle.model.specs.Uses.{In}
use Rattle.model.specs.declared.slips.Use.{Use}
use Rattle.register.specs.Lookups.{what_of}
use Rattle.register.specs.declared.records.Numbered.{Numbered}
use Rattle.std.specs.List.{AllWithin, HoldsAt}
use Rattle.weighbridge.specs.Crossings.{uses_of}

-- a record
abbrev pub blank : Numbered Use
blank = record { number = 0; what = record { first = 0; last = 0; kilos = pos 0 } }

-- where a use stands among the records
place_of : (a : Use) (xs : List (Numbered Use)) → In a (uses_of xs) → (k : ℕ) × (k < length xs) × ((what_of (get_or xs k blank)) ≡ a)
place_of a [] h = absurd h
place_of a (x ∷ xs) (inl e) = (0, omega arith, e)
place_of a (x ∷ xs) (inr h) = let w = place_of a xs h in (suc w.0, omega (arith, w.1), w.2)

module _ (xs : List (Numbered Use)) (P : Use → Type 0) where
  pub some_use : (r : Bool) → MatchBool r ((k : ℕ) × (k < length xs) × HoldsAt (λ x. P (what_of x)) xs k) (AllWithin (λ x. P (what_of x) → ⊥) xs 0 (length xs)) → Decides r ((a : Use) × In a (uses_of xs) × P a)
  some_use true h = (λ _. (what_of (get_or xs h.0 blank), in_at what_of xs h.0 blank h.1, h.2 blank), λ _. refl)
  some_use false none = (
    λ e. absurd (false≢true e),
    λ w.
        let at = place_of w.0 xs w.1 in absurd (none at.0 blank (omega arith) at.1 (subst P (sym at.2) w.2)),
  )

  pub each_use : (r : Bool) → MatchBool r (AllWithin (λ x. P (what_of x)) xs 0 (length xs)) ((k : ℕ) × (k < length xs) × HoldsAt (λ x. P (what_of x) → ⊥) xs k) → Decides r ((a : Use) → In a (uses_of xs) → P a)
  each_use true all = (λ _ a h. let at = place_of a xs h in subst P at.2 (all at.0 blank (omega arith) at.1), λ _. refl)
  each_use false h = (λ e. absurd (false≢true e), λ all. absurd (h.2 blank (all (what_of (get_or xs h.0 blank)) (in_at what_of xs h.0 blank h.1))))
