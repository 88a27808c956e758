-- Views that are equal, and the order of views.
use Rattle.std.proofs.Common.{◌≡◌, ℕ, ◌<◌, ◌∙◌, arith}
use Rattle.std.proofs.lemmas.Int.{ints}
use Rattle.model.specs.Plans.{View, Tighter}

-- views of the same points and entries are equal
pub same_view : (m n : View) → m.points ≡ n.points → ((i j : ℕ) → m.at i j ≡ n.at i j) → m ≡ n
same_view m n p q = λ x. record { points = p x; at = λ i j. q i j x }

pub tighter_trans : {a b c : View} → Tighter a b → Tighter b c → Tighter a c
tighter_trans {a} {b} {c} ab bc =
    record {
      same = ab.same ∙ bc.same;
      below = λ i j hi hj. omega (arith, ints, ab.below i j hi hj, bc.below i j (omega (arith, ab.same)) (omega (arith, ab.same)));
    }

-- views that are tighter than each other have the same entries
pub tighter_antisym : {a b : View} → Tighter a b → Tighter b a → (i j : ℕ) → i < a.points → j < a.points → a.at i j ≡ b.at i j
tighter_antisym {a} {b} ab ba i j hi hj =
    omega (arith, ints, ab.below i j hi hj, ba.below i j (omega (arith, ab.same)) (omega (arith, ab.same)))
