-- Uses of two lists together, and of a list with one more behind it.
use Rattle.std.proofs.Common.{◌≡◌, ◌⊎◌, List, [], ◌∷◌, ◌++◌, inl, inr, ⊎_elim}
use Rattle.model.proofs.Members.{in_either, in_front, in_last}
use Rattle.model.specs.Uses.{In}
use Rattle.model.specs.declared.slips.Use.{Use}
use Rattle.weighbridge_laws.specs.Weighbridges.{Before, Two}

-- a use of the longer list is an earlier one, or the last
pub in_push : (u x : Use) (us : List Use) → In u (us ++ x ∷ []) → In u us ⊎ (x ≡ u)
in_push u x us h = ⊎_elim inl (⊎_elim inr (λ none. absurd none)) (in_either u us (x ∷ []) h)

pub in_earlier : (u x : Use) (us : List Use) → In u us → In u (us ++ x ∷ [])
in_earlier u x us h = in_front u us (x ∷ []) h

before_front : (a b : Use) (us vs : List Use) → Before a b us → Before a b (us ++ vs)
before_front a b [] vs h = absurd h
before_front a b (u ∷ us) vs (inl h) = inl (h.0, in_front b us vs h.1)
before_front a b (u ∷ us) vs (inr h) = inr (before_front a b us vs h)

before_last : (a b : Use) (us : List Use) → In a us → Before a b (us ++ b ∷ [])
before_last a b [] h = absurd h
before_last a b (u ∷ us) (inl e) = inl (e, in_last b us)
before_last a b (u ∷ us) (inr h) = inr (before_last a b us h)

before_push : (a b x : Use) (us : List Use) → Before a b (us ++ x ∷ []) → Before a b us ⊎ (In a us × (x ≡ b))
before_push a b x [] (inl h) = absurd h.1
before_push a b x [] (inr h) = absurd h
before_push a b x (u ∷ us) (inl h) = ⊎_elim (λ k. inl (inl (h.0, k))) (λ e. inr (inl h.0, e)) (in_push b x us h.1)
before_push a b x (u ∷ us) (inr h) = ⊎_elim (λ k. inl (inr k)) (λ w. inr (inr w.0, w.1)) (before_push a b x us h)

pub two_front : (a b : Use) (us vs : List Use) → Two a b us → Two a b (us ++ vs)
two_front a b us vs (inl h) = inl (before_front a b us vs h)
two_front a b us vs (inr h) = inr (before_front b a us vs h)

pub two_earlier : (a b x : Use) (us : List Use) → Two a b us → Two a b (us ++ x ∷ [])
two_earlier a b x us h = two_front a b us (x ∷ []) h

-- an earlier use and the last are two
pub two_last : (a b : Use) (us : List Use) → In a us → Two a b (us ++ b ∷ [])
two_last a b us h = inl (before_last a b us h)

pub two_swap : (a b : Use) (us : List Use) → Two a b us → Two b a us
two_swap a b us (inl h) = inr h
two_swap a b us (inr h) = inl h

-- two of the longer list are earlier ones, or one of them is the last
pub two_push : {P : Type 0} (a b x : Use) (us : List Use) → (Two a b us → P) → (In a us → x ≡ b → P) → (In b us → x ≡ a → P) → Two a b (us ++ x ∷ []) → P
two_push a b x us both second first (inl h) = ⊎_elim (λ k. both (inl k)) (λ w. second w.0 w.1) (before_push a b x us h)
two_push a b x us both second first (inr h) = ⊎_elim (λ k. both (inr k)) (λ w. first w.0 w.1) (before_push b a x us h)
