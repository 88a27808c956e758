-- What a loop over numbered uses has found among the first of them.
use Rattle.std.proofs.Common.{◌≡◌, ℕ, ◌+◌, ◌<◌, ◌≤◌, true, false, ◌⊎◌, List, [], ◌∷◌, ◌++◌, length, get_or, take, drop, Decides, sym, refl, ap, ◌∙◌, subst, ⊎_elim}
use Rattle.std.proofs.lemmas.List.{map-append, map_more, take_all, take-append-drop}
use Rattle.std.proofs.lemmas.Bool.{false≢true}
use Rattle.model.specs.declared.slips.Use.{Use}
use Rattle.register.specs.Lookups.{what_of}
use Rattle.register.specs.declared.records.Numbered.{Numbered}
use Rattle.weighbridge.specs.Crossings.{uses_of}

-- Q holds of a list where R holds of one of its uses and those before it
pub record Grows (Q : List Use → Type 0) (R : List Use → Use → Type 0) : Type 0 where
  pub none : Q [] → ⊥
  pub front : (us vs : List Use) → Q us → Q (us ++ vs)
  pub last : (us : List Use) (u : Use) → R us u → Q (us ++ u ∷ [])
  pub push : (us : List Use) (u : Use) → Q (us ++ u ∷ []) → Q us ⊎ R us u

-- Q holds of a list where R holds of each of its uses and those before it
pub record Shrinks (Q : List Use → Type 0) (R : List Use → Use → Type 0) : Type 0 where
  pub none : Q []
  pub front : (us vs : List Use) → Q (us ++ vs) → Q us
  pub last : (us : List Use) (u : Use) → Q (us ++ u ∷ []) → R us u
  pub push : (us : List Use) (u : Use) → Q us → R us u → Q (us ++ u ∷ [])

-- a test that came out either way
pub decides_true : {P : Type 0} → P → Decides true P
decides_true h = (λ e. h, λ k. refl)

pub decides_false : {P : Type 0} → (P → ⊥) → Decides false P
decides_false none = (λ e. absurd (false≢true e), λ h. absurd (none h))

module _ (xs : List (Numbered Use)) where
  -- the first n, and those behind them
  parted : (n : ℕ) → uses_of xs ≡ uses_of (take n xs) ++ uses_of (drop n xs)
  parted n = ap uses_of (sym (take-append-drop n xs)) ∙ map-append what_of (take n xs) (drop n xs)

  -- once the loop is through, the first of them are all
  pub all_passed : (Q : List Use → Type 0) (n : ℕ) → length xs ≤ n → Q (uses_of (take n xs)) → Q (uses_of xs)
  all_passed Q n h q = subst (λ ys. Q (uses_of ys)) (take_all n xs h) q

  module _ (n : ℕ) (x : Numbered Use) (within : n < length xs) (Q : List Use → Type 0) (R : List Use → Use → Type 0) where
    -- the first of them with the next one
    more : uses_of (take (n + 1) xs) ≡ uses_of (take n xs) ++ (get_or xs n x).what ∷ []
    more = map_more what_of xs n x within

    pub found : Grows Q R → R (uses_of (take n xs)) (get_or xs n x).what → Q (uses_of xs)
    found g h =
        subst Q (sym (parted (n + 1)))
        (g.front (uses_of (take (n + 1) xs)) (uses_of (drop (n + 1) xs)) (subst Q (sym more) (g.last (uses_of (take n xs)) (get_or xs n x).what h)))

    pub not_found : Grows Q R → (Q (uses_of (take n xs)) → ⊥) → (R (uses_of (take n xs)) (get_or xs n x).what → ⊥) → Q (uses_of (take (n + 1) xs)) → ⊥
    not_found g before here h = ⊎_elim before here (g.push (uses_of (take n xs)) (get_or xs n x).what (subst Q more h))

    pub kept : Shrinks Q R → Q (uses_of (take n xs)) → R (uses_of (take n xs)) (get_or xs n x).what → Q (uses_of (take (n + 1) xs))
    kept s before here = subst Q (sym more) (s.push (uses_of (take n xs)) (get_or xs n x).what before here)

    pub broken : Shrinks Q R → (R (uses_of (take n xs)) (get_or xs n x).what → ⊥) → Q (uses_of xs) → ⊥
    broken s here h =
        here (s.last (uses_of (take n xs)) (get_or xs n x).what
        (subst Q more (s.front (uses_of (take (n + 1) xs)) (uses_of (drop (n + 1) xs)) (subst Q (parted (n + 1)) h))))
