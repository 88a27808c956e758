-- What stands under a number in a list of numbered records, and the order of the numbers.
use Rattle.std.specs.Prelude.{ℕ, ◌<◌, ◌≤◌, cond, List, [], ◌∷◌, map, length, IsTrue, All, AllPairs, Some, None, Option, ◌==◌, slice_index}
use Rattle.register.specs.Numbers.{is_number}
use Rattle.register.specs.declared.records.Numbered.{Numbered}
use Rattle.std.specs.Option.{option_map}

-- no record under any number
abbrev pub nothing : {X : Type 0} → ℕ → Option X
nothing k = None

-- the same records, but o under the number n
abbrev pub put_at : {X : Type 0} → (ℕ → Option X) → ℕ → Option X → ℕ → Option X
put_at f n o k = cond (k == n) o (f k)

module _ {T : Type 0} where
  abbrev pub number_of : Numbered T → ℕ
  number_of x = x.number

  abbrev pub what_of : Numbered T → T
  what_of x = x.what

  abbrev pub numbers : List (Numbered T) → List ℕ
  numbers xs = map number_of xs

  -- the record that stands under a number
  abbrev pub lookup : List (Numbered T) → ℕ → Option T
  lookup [] = nothing
  lookup (x ∷ xs) = put_at (lookup xs) x.number (Some x.what)

  -- each record with its number
  abbrev pub numbered : (ℕ → Option T) → ℕ → Option (Numbered T)
  numbered f k = option_map (λ x. record { number = k; what = x }) (f k)

-- the numbers rise strictly
abbrev pub Rises : List ℕ → Type 0
Rises ns = AllPairs (λ m n. m < n) ns

-- every number is a slip number
abbrev pub Proper : List ℕ → Type 0
Proper ns = All (λ n. IsTrue (is_number n)) ns

-- the number n would come at the place i
pub record Gap (ns : List ℕ) (n i : ℕ) : Type 0 where
  pub before : (k : ℕ) → k < i → slice_index ns k < n
  pub behind : (k : ℕ) → i ≤ k → k < length ns → n < slice_index ns k
