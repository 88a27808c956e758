-- How the lookup follows an insertion and a removal.
use Rattle.std.proofs.Common.{◌≡◌, ℕ, zero, suc, ◌<◌, eqb, List, [], ◌∷◌, ◌++◌, length, get_or, take, drop, Some, None, MatchBool, slice_get, sym, refl, ap, ◌∙◌, subst, arith}
use mathlib.Core.List.{map-append}
use Rattle.register.proofs.Puts.{put_here}
use Rattle.register.specs.Lookups.{number_of, what_of, numbers, nothing, lookup, put_at}
use Rattle.register.specs.declared.records.Numbered.{Numbered}
use Rattle.std.proofs.lemmas.Bool.{ne_eqb}
use Rattle.std.proofs.lemmas.Option.{none-some}
use Rattle.std.proofs.lemmas.Bool.Decides.{nat_tests}
use Rattle.std.proofs.lemmas.List.{take-map, drop-map}
use Rattle.std.specs.List.{insert, remove}
use Rattle.std.specs.Option.{option_map}

module _ {T : Type 0} where
  pub numbers_inserted : (xs : List (Numbered T)) (i : ℕ) (x : Numbered T) → numbers (insert xs i x) ≡ insert (numbers xs) i x.number
  numbers_inserted xs i x =
      map-append number_of (take i xs) (x ∷ drop i xs)
      ∙ (ap (λ l. l ++ x.number ∷ numbers (drop i xs)) (sym (take-map number_of i xs))
      ∙ ap (λ l. take i (numbers xs) ++ x.number ∷ l) (sym (drop-map number_of i xs)))

  pub numbers_removed : (xs : List (Numbered T)) (i : ℕ) → numbers (remove xs i) ≡ remove (numbers xs) i
  numbers_removed xs i =
      map-append number_of (take i xs) (drop (suc i) xs)
      ∙ (ap (λ l. l ++ numbers (drop (suc i) xs)) (sym (take-map number_of i xs))
      ∙ ap (λ l. take i (numbers xs) ++ l) (sym (drop-map number_of (suc i) xs)))

  -- nothing stands exactly if the list is empty
  pub lookup_empty : (xs : List (Numbered T)) → MatchBool (eqb (length xs) 0) (lookup xs ≡ nothing) (lookup xs ≡ nothing → ⊥)
  lookup_empty [] = refl
  lookup_empty (x ∷ xs) =
      subst (λ t. MatchBool t (lookup (x ∷ xs) ≡ nothing) (lookup (x ∷ xs) ≡ nothing → ⊥)) (sym (ne_eqb (suc (length xs)) 0 (λ e. omega arith)))
      (λ e. none-some x.what (sym (ap (λ f. f x.number) e) ∙ put_here (lookup xs) x.number (Some x.what)))

  -- no record before the place i has the number n
  abbrev pub NoneBefore : List (Numbered T) → ℕ → ℕ → Type 0
  NoneBefore xs n i = (k : ℕ) → k < i → get_or (numbers xs) k 0 ≡ n → ⊥

  in_tail : (x : Numbered T) (xs : List (Numbered T)) (n i : ℕ) → NoneBefore (x ∷ xs) n (suc i) → NoneBefore xs n i
  in_tail x xs n i none k l = none (suc k) (omega arith)

  pub lookup_absent : (xs : List (Numbered T)) (n : ℕ) → NoneBefore xs n (length xs) → lookup xs n ≡ None
  lookup_absent [] n none = refl
  lookup_absent (x ∷ xs) n none = grind (arith, nat_tests, none 0 (omega arith), lookup_absent xs n (in_tail x xs n _ none))

  pub lookup_at : (xs : List (Numbered T)) (n i : ℕ) → i < length xs → get_or (numbers xs) i 0 ≡ n → NoneBefore xs n i → lookup xs n ≡ option_map what_of (slice_get xs i)
  lookup_at [] n i l at none = absurd (omega arith)
  lookup_at (x ∷ xs) n zero l at none = grind (arith, nat_tests)
  lookup_at (x ∷ xs) n (suc i) l at none = grind (arith, nat_tests, none 0 (omega arith), lookup_at xs n i (omega arith) at (in_tail x xs n i none))

  pub lookup_inserted : (xs : List (Numbered T)) (i : ℕ) (x : Numbered T) → NoneBefore xs x.number i → (q : ℕ) → lookup (insert xs i x) q ≡ put_at (lookup xs) x.number (Some x.what) q
  lookup_inserted xs zero x none q = refl
  lookup_inserted [] (suc i) x none q = refl
  lookup_inserted (y ∷ xs) (suc i) x none q = grind (arith, nat_tests, none 0 (omega arith), lookup_inserted xs i x (in_tail y xs x.number i none) q)

  pub lookup_removed : (xs : List (Numbered T)) (n i : ℕ) → i < length xs → get_or (numbers xs) i 0 ≡ n → NoneBefore xs n i → ((k : ℕ) → i < k → k < length xs → get_or (numbers xs) k 0 ≡ n → ⊥) → (q : ℕ) → lookup (remove xs i) q ≡ put_at (lookup xs) n None q
  lookup_removed [] n i l at none behind q = absurd (omega arith)
  lookup_removed (x ∷ xs) n zero l at none behind q = grind (arith, nat_tests, lookup_absent xs n (λ k m. behind (suc k) (omega arith) (omega arith)))
  lookup_removed (x ∷ xs) n (suc i) l at none behind q = grind (arith, nat_tests, none 0 (omega arith), lookup_removed xs n i (omega arith) at (in_tail x xs n i none) (λ k m j. behind (suc k) (omega arith) (omega arith)) q)
