-- The total of a table falls with its entries.
use Rattle.std.proofs.Common.{◌≡◌, ℕ, zero, suc, ◌<◌, ◌≤◌, ℤ, pos, negsuc, ◌≤ℤ◌, ◌<ℤ◌, sym, refl, subst, inl, inr, arith}
use Rattle.std.proofs.lemmas.Int.{ints}
use Rattle.std.proofs.lemmas.Bool.{cases_eq}
use Rattle.model.specs.Plans.{View, Tighter}
use Rattle.tables.specs.Totals.{height, sum_to, total}

pub height_le : (x y : ℤ) → x ≤ℤ y → height x ≤ height y
height_le (pos a) (pos b) h = omega (arith, ints)
height_le (pos a) (negsuc b) h = absurd h.le
height_le (negsuc a) (pos b) h = omega (arith, ints)
height_le (negsuc a) (negsuc b) h = omega (arith, ints)

pub height_less : (x y : ℤ) → negsuc 10080 ≤ℤ x → x <ℤ y → height x < height y
height_less (pos a) (pos b) low h = omega (arith, ints)
height_less (pos a) (negsuc b) low h = absurd h.lt
height_less (negsuc a) (pos b) low h = omega (arith, ints)
height_less (negsuc a) (negsuc b) low h = omega (arith, ints)

pub sum_le : (f g : ℕ → ℕ) (n : ℕ) → ((k : ℕ) → k < n → f k ≤ g k) → sum_to f n ≤ sum_to g n
unfolding sum_to
sum_le f g zero h = omega arith
sum_le f g (suc n) h = omega (arith, h n (omega arith), sum_le f g n (λ k lt. h k (omega arith)))

pub sum_less : (f g : ℕ → ℕ) (n k : ℕ) → k < n → ((k : ℕ) → k < n → f k ≤ g k) → f k < g k → sum_to f n < sum_to g n
unfolding sum_to
sum_less f g zero k lt h less = absurd (omega arith)
sum_less f g (suc n) k lt h less =
    elim (cases_eq k n) [
      | inl e ↦ let here : f n < g n = subst (λ (x : ℕ). f x < g x) e less in omega (arith, sum_le f g n (λ k lt. h k (omega arith)))
      | inr ne ↦ omega (arith, h n (omega arith), sum_less f g n k (omega arith) (λ k lt. h k (omega arith)) less)
    ]

-- the totals of two views of n points
total_at : (n : ℕ) (m : View) → m.points ≡ n → total m ≡ sum_to (λ i. sum_to (λ j. height (m.at i j)) n) n
unfolding total
total_at n m e = subst (λ (k : ℕ). total m ≡ sum_to (λ i. sum_to (λ j. height (m.at i j)) k) k) e refl

pub total_le : (a b : View) → Tighter b a → total b ≤ total a
total_le a b t =
    let n = b.points in
    let rows : sum_to (λ i. sum_to (λ j. height (b.at i j)) n) n ≤ sum_to (λ i. sum_to (λ j. height (a.at i j)) n) n =
    sum_le _ _ n (λ i hi. sum_le _ _ n (λ j hj. height_le _ _ (t.below i j hi hj)))
    in
    omega (arith, total_at n b refl, total_at n a (sym t.same))

-- an entry that is lower
pub total_less : (a b : View) → Tighter b a → (i j : ℕ) → i < b.points → j < b.points → negsuc 10080 ≤ℤ b.at i j → b.at i j <ℤ a.at i j → total b < total a
total_less a b t i j hi hj low less =
    let n = b.points in
    let row : sum_to (λ j. height (b.at i j)) n < sum_to (λ j. height (a.at i j)) n =
    sum_less (λ j. height (b.at i j)) (λ j. height (a.at i j)) n j hj (λ j hj. height_le _ _ (t.below i j hi hj)) (height_less _ _ low less)
    in
    let rows : sum_to (λ i. sum_to (λ j. height (b.at i j)) n) n < sum_to (λ i. sum_to (λ j. height (a.at i j)) n) n =
    sum_less (λ i. sum_to (λ j. height (b.at i j)) n) (λ i. sum_to (λ j. height (a.at i j)) n) n i hi
    (λ i hi. sum_le _ _ n (λ j hj. height_le _ _ (t.below i j hi hj))) row
    in
    omega (arith, total_at n b refl, total_at n a (sym t.same))
