-- The shortest ways between the points of a day over given bounds: no closed table that keeps these bounds exceeds them.
use Rattle.std.proofs.Common.{◌≡◌, ℕ, zero, suc, ◌<◌, ◌≤◌, cond, ◌&&◌, eqb, List, [], ◌∷◌, ℤ, pos, ◌+ℤ◌, ◌≤ℤ◌, refl, inl, inr, arith}
use Rattle.std.proofs.lemmas.Int.{ints, clamps}
use Rattle.std.proofs.lemmas.Bool.{and_parts, eqb-true, cond_both}
use Rattle.std.specs.Int.{int_min}
use Rattle.model.specs.Closed.{Slips, Closed}
use Rattle.model.specs.Meanings.{Meaning}
use Rattle.model.specs.Plans.{View}
use Rattle.model.specs.Uses.{In}
use Rattle.model.specs.declared.slips.Distance.{Distance}

-- the horizon, nothing before opening, and 0 from a point to itself
abbrev pub start : ℕ → ℕ → ℕ → ℤ
start h i j = cond (eqb i j) (pos 0) (cond (eqb j 0) (pos 0) (pos h))

-- these bounds, lowered by the slips of a list
abbrev pub slipped : List Distance → (ℕ → ℕ → ℤ) → ℕ → ℕ → ℤ
slipped [] a i j = a i j
slipped (s ∷ ss) a i j = cond (eqb i s.from && eqb j s.to) (int_min s.minutes (slipped ss a i j)) (slipped ss a i j)

-- and by the ways over the points below n
abbrev pub through : ℕ → (ℕ → ℕ → ℤ) → ℕ → ℕ → ℤ
through zero a i j = a i j
through (suc p) a i j = int_min (through p a i j) (through p a i p +ℤ through p a p j)

abbrev pub shortest : (h n : ℕ) → List Distance → ℕ → ℕ → ℤ
shortest h n ss = through n (slipped ss (start h))

-- the table keeps every slip of the list
abbrev pub Keeps : View → List Distance → Type 0
Keeps k ss = (s : Distance) → In s ss → k.at s.from s.to ≤ℤ s.minutes

module _ (h n : ℕ) (slips : Slips) (r : Meaning) (k : View) (closed : Closed h n slips r k) where
  -- no entry of k exceeds the bounds
  abbrev Under : (ℕ → ℕ → ℤ) → Type 0
  Under a = (i j : ℕ) → i < n → j < n → k.at i j ≤ℤ a i j

  under_start : Under (start h)
  under_start i j hi hj =
      cond_both (eqb i j) (pos 0) (cond (eqb j 0) (pos 0) (pos h)) (λ b. k.at i j ≤ℤ b)
      (λ e. let z : k.at i j ≡ pos 0 = rw (← eqb-true i j e) (closed.sound.zero i (omega (arith, closed.points))) in omega (arith, ints))
      (λ _. cond_both (eqb j 0) (pos 0) (pos h) (λ b. k.at i j ≤ℤ b) (λ e. rw (eqb-true j 0 e) (closed.opening i hi)) (λ _. closed.short i j hi hj))

  under_slipped : (ss : List Distance) (a : ℕ → ℕ → ℤ) → Under a → Keeps k ss → Under (slipped ss a)
  under_slipped [] a under keeps i j hi hj = under i j hi hj
  under_slipped (s ∷ ss) a under keeps i j hi hj =
      let rest = under_slipped ss a under (λ u m. keeps u (inr m)) i j hi hj in
      cond_both (eqb i s.from && eqb j s.to) (int_min s.minutes (slipped ss a i j)) (slipped ss a i j) (λ b. k.at i j ≤ℤ b)
      (λ e.
      let at = and_parts (eqb i s.from) (eqb j s.to) e in
      let here : k.at i j ≤ℤ s.minutes = rw (eqb-true i s.from at.0, eqb-true j s.to at.1) (keeps s (inl refl)) in
      omega (arith, ints, clamps))
      (λ _. rest)

  under_through : (p : ℕ) (a : ℕ → ℕ → ℤ) → p ≤ n → Under a → Under (through p a)
  under_through zero a l under i j hi hj = under i j hi hj
  under_through (suc p) a l under i j hi hj =
      let lower = under_through p a (omega arith) under in
      let hp : p < n = omega arith in
      let same = closed.points in
      omega (arith, ints, clamps, lower i j hi hj, lower i p hi hp, lower p j hp hj, closed.sound.triangle i p j (omega arith) (omega arith) (omega arith))

  pub under_shortest : (ss : List Distance) → Keeps k ss → Under (shortest h n ss)
  under_shortest ss keeps = under_through n (slipped ss (start h)) (omega arith) (under_slipped ss (start h) under_start keeps)
