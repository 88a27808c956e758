-- One entry lowered, as a narrowing.
use Rattle.std.proofs.Common.{◌≡◌, ℕ, ◌<◌, ◌⊎◌, ℤ, ◌≤ℤ◌, sym, refl, ◌∙◌, subst, inl, inr, ⊎_elim, arith}
use lib.Signed.{≤ℤ_refl}
use Rattle.std.proofs.lemmas.Int.{ints, clamps, by_lt_z}
use Rattle.std.proofs.lemmas.Bool.{cases_eq}
use Rattle.std.specs.Int.{int_min}
use Rattle.model.specs.Narrowings.{Least, Narrowed}
use Rattle.model.specs.Plans.{View}
use Rattle.tables.specs.Views.{lowered}
use Rattle.tables.proofs.Lowers.{lowered_here, lowered_elsewhere}

-- the bound v at (i, j) alone
abbrev pub One : ℕ → ℕ → ℤ → ℕ → ℕ → ℤ → Type 0
One i j v p q b = (p ≡ i) × (q ≡ j) × (b ≡ v)

least_of_two : (P : ℤ → Type 0) (x y v : ℤ) → P v → ((b : ℤ) → P b → b ≡ v) → y ≡ int_min x v → Least P x y
least_of_two P x y v given alone e = record {
  below = omega (arith, ints, clamps);
  under = λ b h. let s = alone b h in omega (arith, ints, clamps);
  reached = pick (by_lt_z v x (λ h. inr (omega (arith, ints, clamps))) (λ h. inl (omega (arith, ints, clamps))));
}
  where
    pick : (int_min x v ≡ x) ⊎ (int_min x v ≡ v) → (y ≡ x) ⊎ P y
    pick (inl h) = inl (e ∙ h)
    pick (inr h) = inr (subst P (sym (e ∙ h)) given)

pub narrowed_one : (m : View) (i j : ℕ) (v : ℤ) → Narrowed (One i j v) m (lowered m i j v)
narrowed_one m i j v = record {
  points = refl;
  least = λ p q hp hq. ⊎_elim
      (λ (e : p ≡ i). ⊎_elim
      (λ (f : q ≡ j). least_of_two (One i j v p q) (m.at p q) ((lowered m i j v).at p q) v (e, f, refl) (λ b h. h.2) (here p q e f hp hq))
      (λ ne. away p q (λ w. ne w.1))
      (cases_eq q j))
      (λ ne. away p q (λ w. ne w.0))
      (cases_eq p i);
}
  where
    here : (p q : ℕ) → p ≡ i → q ≡ j → p < m.points → q < m.points → (lowered m i j v).at p q ≡ int_min (m.at p q) v
    here p q e f hp hq = rw (e, f) (lowered_here m i j v (subst (λ n. n < m.points) e hp) (subst (λ n. n < m.points) f hq))

    away : (p q : ℕ) → ((p ≡ i) × (q ≡ j) → ⊥) → Least (One i j v p q) (m.at p q) ((lowered m i j v).at p q)
    away p q ne =
        let s = lowered_elsewhere m i j v p q ne in
        record { below = subst (λ z. z ≤ℤ m.at p q) (sym s) (≤ℤ_refl (m.at p q)); under = λ b h. absurd (ne (h.0, h.1)); reached = inl s }
