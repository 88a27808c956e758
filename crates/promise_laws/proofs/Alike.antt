-- A day has one tightened table at most, and none where no table is closed.
use Rattle.std.proofs.Common.{◌≡◌, ℕ, arith}
use Rattle.std.proofs.lemmas.Int.{ints}
use Rattle.model.specs.Closed.{Slips, NoneClosed, Tightened}
use Rattle.model.specs.Meanings.{Meaning}
use Rattle.model.specs.Plans.{View, Tighter}
use Rattle.promise_laws.proofs.Views.{views_same}

module _ (h n : ℕ) (slips : Slips) (r : Meaning) (m : View) (tm : Tightened h n slips r m) where
  pub one_table : (k : View) → Tightened h n slips r k → m ≡ k
  one_table k tk =
      let to : Tighter m k = tk.greatest m tm.closed in
      let back : Tighter k m = tm.greatest k tk.closed in
      views_same m k tm.closed.sound tk.closed.sound to.same
      (λ i j a b. omega (arith, ints, to.below i j a b, back.below i j (omega (arith, to.same)) (omega (arith, to.same))))

  pub excluded : NoneClosed h n slips r → ⊥
  excluded none = none m tm.closed
