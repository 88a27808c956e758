-- Tests over the points below n and over a list, and what they show once they pass.
use Rattle.std.proofs.Common.{◌≡◌, ℕ, zero, suc, ◌<◌, Bool, true, ◌&&◌, T, List, [], ◌∷◌, ℤ, ◌≤ℤ◌, sym, refl, ap, ◌∙◌, subst, inl, inr}
use lib.Signed.{le_z, le_z_yes}
use Rattle.std.proofs.lemmas.Bool.{and_parts}
use Rattle.std.proofs.lemmas.Bool.Decides.{Decides-below_and}
use Rattle.std.specs.List.{AllByRecursion as All}
use Rattle.model.specs.Uses.{In}

pub le_from : (a b : ℤ) → le_z a b ≡ true → a ≤ℤ b
le_from a b e = le_z_yes (subst T (sym e) tt)

abbrev pub all_below : ℕ → (ℕ → Bool) → Bool
all_below zero test = true
all_below (suc n) test = test n && all_below n test

pub below : (n : ℕ) (test : ℕ → Bool) → all_below n test ≡ true → (i : ℕ) → i < n → test i ≡ true
below n test = (Decides-below_and test (λ k. test k ≡ true) (λ k. all_below k test) (λ k. (λ h. h, λ h. h)) refl (λ _. refl) n).0

abbrev pub all_in : {X : Type 0} → (X → Bool) → List X → Bool
all_in test [] = true
all_in test (x ∷ xs) = test x && all_in test xs

pub each : {X : Type 0} (test : X → Bool) (xs : List X) → all_in test xs ≡ true → (x : X) → In x xs → test x ≡ true
each test [] e x h = absurd h
each test (y ∷ xs) e x (inl same) = ap test (sym same) ∙ (and_parts (test y) (all_in test xs) e).0
each test (y ∷ xs) e x (inr h) = each test xs (and_parts (test y) (all_in test xs) e).1 x h

pub all_in_holds : {X : Type 0} (P : X → Type 0) (xs : List X) → All P xs → (x : X) → In x xs → P x
all_in_holds P [] all x h = absurd h
all_in_holds P (y ∷ xs) all x (inl same) = subst P same all.0
all_in_holds P (y ∷ xs) all x (inr h) = all_in_holds P xs all.1 x h
