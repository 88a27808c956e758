-- Records of a list.
use Rattle.std.proofs.Common.{ℕ, zero, suc, ◌<◌, ◌⊎◌, List, [], ◌∷◌, ◌++◌, map, length, get_or, take, refl, inl, inr, ⊎_elim, le_of_suc-le-suc, not-suc-le-zero}
use Rattle.model.specs.Uses.{In}

module _ {X : Type 0} where
  -- a record of two lists is one of the first or one of the second
  pub in_either : (x : X) (xs ys : List X) → In x (xs ++ ys) → In x xs ⊎ In x ys
  in_either x [] ys h = inr h
  in_either x (y ∷ xs) ys (inl e) = inl (inl e)
  in_either x (y ∷ xs) ys (inr h) = ⊎_elim (λ a. inl (inr a)) (λ b. inr b) (in_either x xs ys h)

  pub in_front : (x : X) (xs ys : List X) → In x xs → In x (xs ++ ys)
  in_front x [] ys h = absurd h
  in_front x (y ∷ xs) ys (inl e) = inl e
  in_front x (y ∷ xs) ys (inr h) = inr (in_front x xs ys h)

  pub in_last : (x : X) (xs : List X) → In x (xs ++ x ∷ [])
  in_last x [] = inl refl
  in_last x (y ∷ xs) = inr (in_last x xs)

  -- a record of the first i
  pub in_taken : (x : X) (i : ℕ) (xs : List X) → In x (take i xs) → In x xs
  in_taken x zero xs h = absurd h
  in_taken x (suc i) [] h = absurd h
  in_taken x (suc i) (y ∷ xs) (inl e) = inl e
  in_taken x (suc i) (y ∷ xs) (inr h) = inr (in_taken x i xs h)

  -- the record at a place
  pub in_place : (xs : List X) (i : ℕ) (d : X) → i < length xs → In (get_or xs i d) xs
  in_place [] i d h = absurd (not-suc-le-zero h)
  in_place (x ∷ xs) zero d h = inl refl
  in_place (x ∷ xs) (suc i) d h = inr (in_place xs i d (le_of_suc-le-suc h))

  pub in_at : {Y : Type 0} (f : X → Y) (xs : List X) (i : ℕ) (d : X) → i < length xs → In (f (get_or xs i d)) (map f xs)
  in_at f [] i d h = absurd (not-suc-le-zero h)
  in_at f (x ∷ xs) zero d h = inl refl
  in_at f (x ∷ xs) (suc i) d h = inr (in_at f xs i d (le_of_suc-le-suc h))
