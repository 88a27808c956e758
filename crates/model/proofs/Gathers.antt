-- What stands among the records that are gathered by rising number.
use Rattle.std.proofs.Common.{◌≡◌, ℕ, zero, suc, ◌<◌, Some, None, Option, refl, inl, inr, ⊎_elim}
use Rattle.std.specs.Option.{option_to_list}
use Rattle.model.proofs.Members.{in_either}
use Rattle.model.specs.Plans.{View}
use Rattle.model.specs.Uses.{Uses, In, gather, standing, Holds}
use Rattle.model.specs.declared.slips.Use.{Use}

of_option : {X : Type 0} (x : X) (o : Option X) → In x (option_to_list o) → o ≡ Some x
of_option x None h = absurd h
of_option x (Some y) (inl e) = rw e refl
of_option x (Some y) (inr h) = absurd h

-- what is gathered stands under some number
pub under_number : {X : Type 0} (x : X) (k n : ℕ) (f : ℕ → Option X) → In x (gather k n f) → (i : ℕ) × (f i ≡ Some x)
unfolding gather
under_number x k zero f h = absurd h
under_number x k (suc n) f h = ⊎_elim (λ a. (k, of_option x (f k) a)) (λ b. under_number x (suc k) n f b) (in_either x (option_to_list (f k)) (gather (suc k) n f) h)

-- so a table that holds the points of all uses holds those of the uses at one place
pub held_points : (us : Uses) (m : View) (place : ℕ) (u : Use) → Holds us m → In u (standing (us place)) → (u.first < m.points) × (u.last < m.points)
held_points us m place u holds h = let w = under_number u 1 9999 (us place) h in holds place w.0 u w.1
