-- What stands in a register, and how its calls end.
use Rattle.std.specs.Prelude.{◌≡◌, ℕ, ◌<◌, ◌≤◌, true, List, length, is_some, Some, None, vec_items, IsTrue, Option, slice_index, slice_get}
use Rattle.std.specs.Option.{option_map}
use Rattle.register.specs.Lookups.{what_of, numbers, lookup, put_at, Gap}
use Rattle.register.specs.Numbers.{is_number}
use Rattle.register.specs.declared.records.Numbered.{Numbered}
use Rattle.register.specs.declared.registers.NoInsert.{NoInsert}
use Rattle.register.specs.declared.registers.NoInsert.TheVariants.{OutOfRange, Stands, Full}
use Rattle.register.specs.declared.registers.Register.{Register}

module _ {T : Type 0} {MOST : ℕ} where
  -- the records by rising number
  abbrev pub items_of : Register T MOST → List (Numbered T)
  items_of r = vec_items r.items

  -- the record that stands under a number
  abbrev pub stands : Register T MOST → ℕ → Option T
  stands r = lookup (items_of r)

  -- the record that stands under the number n is at the place i
  pub record IsAt (r : Register T MOST) (n i : ℕ) : Type 0 where
    pub in_range : i < length (items_of r)
    pub is : slice_index (numbers (items_of r)) i ≡ n
    pub stood : stands r n ≡ option_map what_of (slice_get (items_of r) i)

  -- no record stands under the number n, and one would come at the place i
  pub record IsGapFor (r : Register T MOST) (n i : ℕ) : Type 0 where
    pub in_range : i ≤ length (items_of r)
    pub gap : Gap (numbers (items_of r)) n i
    pub none : stands r n ≡ None

  -- s is r with x inserted under n
  pub record Accepts (r s : Register T MOST) (n : ℕ) (x : T) : Type 0 where
    pub proper : IsTrue (is_number n)
    pub free : stands r n ≡ None
    pub room : length (items_of r) < MOST
    pub after : stands s ≡ put_at (stands r) n (Some x)

  -- why r takes no record under n: the first cause that applies
  abbrev pub Refuses : Register T MOST → ℕ → NoInsert → Type 0
  Refuses r n OutOfRange = IsTrue (is_number n) → ⊥
  Refuses r n Stands = IsTrue (is_number n) × (is_some (stands r n) ≡ true)
  Refuses r n Full = IsTrue (is_number n) × (stands r n ≡ None) × (length (items_of r) ≡ MOST)
