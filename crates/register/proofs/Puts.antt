-- How puts follow one another.
use Rattle.std.proofs.Common.{◌≡◌, ℕ, eqb, Option, refl}
use Rattle.register.specs.Lookups.{put_at}
use Rattle.std.proofs.lemmas.Bool.{cond-true, cond-false, eq-eqb, ne_eqb}

module _ {X : Type 0} (f : ℕ → Option X) where
  pub put_here : (n : ℕ) (o : Option X) → put_at f n o n ≡ o
  put_here n o = cond-true (eqb n n) o (f n) (eq-eqb n n refl)

  pub put_other : (n : ℕ) (o : Option X) (k : ℕ) → (k ≡ n → ⊥) → put_at f n o k ≡ f k
  put_other n o k h = cond-false (eqb k n) o (f k) (ne_eqb k n h)
