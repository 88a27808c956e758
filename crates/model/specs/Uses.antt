-- The uses that stand in a rule.
use Rattle.std.specs.Prelude.{◌≡◌, ℕ, zero, suc, ◌+◌, ◌-◌, ◌<◌, cond, ◌&&◌, ◌⊎◌, List, [], ◌∷◌, ◌++◌, Some, None, Option, ◌==◌, nat_lt}
use Rattle.std.specs.Option.{option_to_list}
use Rattle.model.specs.Plans.{View}
use Rattle.model.specs.declared.slips.Use.{Use}

-- by place and slip number, the use that stands there
abbrev pub Uses : Type 0
Uses = ℕ → ℕ → Option Use

abbrev pub none : Uses
none place number = None

-- the same uses, but o at one place under one number
abbrev pub put : Uses → ℕ → ℕ → Option Use → Uses
put us place number o q k = cond (q == place && k == number) o (us q k)

-- what stands under the numbers from k on, n of them, by rising number
unfoldable pub gather : {X : Type 0} → ℕ → ℕ → (ℕ → Option X) → List X
gather k zero f = []
gather k (suc n) f = option_to_list (f k) ++ gather (suc k) n f

-- the records under the slip numbers 1 to 9,999
abbrev pub standing : {X : Type 0} → (ℕ → Option X) → List X
standing f = gather 1 9999 f

-- a record of the list
abbrev pub In : {X : Type 0} → X → List X → Type 0
In x [] = ⊥
In x (y ∷ ys) = (y ≡ x) ⊎ In x ys

-- the uses of a rule of one place, by number
abbrev pub single : (ℕ → Option Use) → Uses
single f q = cond (q == 0) f (λ k. None)

-- the uses of two rules as one, where the first has n places
abbrev pub joined : ℕ → Uses → Uses → Uses
joined n a b q = cond (nat_lt q n) (a q) (b (q - n))

-- the uses at the first n places, and those behind them
abbrev pub front : ℕ → Uses → Uses
front n us q = cond (nat_lt q n) (us q) (λ k. None)

abbrev pub back : ℕ → Uses → Uses
back n us q = us (n + q)

-- the table holds every point that a standing use names
abbrev pub Holds : Uses → View → Type 0
Holds us m = (place number : ℕ) (u : Use) → us place number ≡ Some u → (u.first < m.points) × (u.last < m.points)
