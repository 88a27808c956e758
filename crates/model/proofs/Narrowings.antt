-- Bounds that are lowered step by step.
use Rattle.std.proofs.Common.{◌≡◌, ℕ, ◌<◌, ◌⊎◌, ℤ, sym, refl, ◌∙◌, subst, inl, inr, ⊎_elim, arith}
use lib.Signed.{≤ℤ_refl}
use Rattle.std.proofs.lemmas.Int.{ints}
use Rattle.model.specs.Narrowings.{Least, Narrowed}
use Rattle.model.specs.Plans.{View}

least_then : (P Q : ℤ → Type 0) (x y z : ℤ) → Least P x y → Least Q y z → Least (λ b. P b ⊎ Q b) x z
least_then P Q x y z p q = record {
  below = let a = p.below in let b = q.below in omega (arith, ints);
  under = λ b. ⊎_elim (λ h. let a = p.under b h in let c = q.below in omega (arith, ints)) (λ h. q.under b h);
  reached = ⊎_elim (λ (e : z ≡ y). ⊎_elim (λ (f : y ≡ x). inl (e ∙ f)) (λ h. inr (inl (subst P (sym e) h))) p.reached) (λ h. inr (inr h)) q.reached;
}

-- one step after another
pub narrowed_then : (G H : ℕ → ℕ → ℤ → Type 0) (a b c : View) → Narrowed G a b → Narrowed H b c → Narrowed (λ i j v. G i j v ⊎ H i j v) a c
narrowed_then G H a b c g h = record {
  points = h.points ∙ g.points;
  least = λ i j hi hj. least_then (G i j) (H i j) (a.at i j) (b.at i j) (c.at i j) (g.least i j hi hj) (h.least i j (subst (λ n. i < n) (sym g.points) hi) (subst (λ n. j < n) (sym g.points) hj));
}

-- bounds given under one name are given under another
pub narrowed_like : (G H : ℕ → ℕ → ℤ → Type 0) (a b : View) → ((i j : ℕ) (v : ℤ) → G i j v → H i j v) → ((i j : ℕ) (v : ℤ) → H i j v → G i j v) → Narrowed G a b → Narrowed H a b
narrowed_like G H a b to from g = record {
  points = g.points;
  least = λ i j hi hj. let l = g.least i j hi hj in record { below = l.below; under = λ v h. l.under v (from i j v h); reached = ⊎_elim inl (λ h. inr (to i j (b.at i j) h)) l.reached };
}

-- nothing given, nothing lowered
pub narrowed_none : (G : ℕ → ℕ → ℤ → Type 0) (a : View) → ((i j : ℕ) (v : ℤ) → G i j v → ⊥) → Narrowed G a a
narrowed_none G a no_bound = record {
  points = refl;
  least = λ i j hi hj. record { below = ≤ℤ_refl (a.at i j); under = λ v h. absurd (no_bound i j v h); reached = inl refl };
}
