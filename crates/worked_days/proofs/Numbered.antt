-- Records numbered one after the other: which stand, and that gathering them gives the list back.
use Rattle.std.proofs.Common.{◌≡◌, ℕ, zero, suc, ◌≤◌, Bool, true, false, cond, eqb, List, [], ◌∷◌, ◌++◌, length, Some, Option, refl, ap, ◌∙◌, inl, inr, arith}
use Rattle.std.specs.Option.{option_to_list}
use Rattle.model.specs.Uses.{In, gather, standing}
use Rattle.register.proofs.Puts.{put_here, put_other}
use Rattle.worked_days.specs.Forms.{numbered_from}

module _ {X : Type 0} where
  -- what stands is one of the list
  pub stands_in : (k : ℕ) (xs : List X) (n : ℕ) (x : X) → numbered_from k xs n ≡ Some x → In x xs
  stands_in k [] n x e = absurd (let z : ◌≡◌ {A = ℕ} 0 1 = cc in omega arith)
  stands_in k (y ∷ xs) n x e = by (eqb n k) e (stands_in (suc k) xs n x)
    where
      by : (here : Bool) → cond here (Some y) (numbered_from (suc k) xs n) ≡ Some x → (numbered_from (suc k) xs n ≡ Some x → In x xs) → In x (y ∷ xs)
      by true h later = inl (cc)
      by false h later = inr (later h)

  -- each of the list stands under some number
  pub in_stands : (k : ℕ) (xs : List X) (x : X) → In x xs → (n : ℕ) × (k ≤ n) × (numbered_from k xs n ≡ Some x)
  in_stands k [] x h = absurd h
  in_stands k (y ∷ xs) x (inl e) = (k, omega arith, put_here (numbered_from (suc k) xs) k (Some y) ∙ ap Some e)
  in_stands k (y ∷ xs) x (inr h) =
      let w = in_stands (suc k) xs x h in
      (w.0, omega (arith, w.1), put_other (numbered_from (suc k) xs) k (Some y) w.0 (λ e. omega (arith, w.1)) ∙ w.2)

  -- a lookup that agrees from k on with a list numbered from k gathers the list
  gathered_from : (k n : ℕ) (xs : List X) (f : ℕ → Option X) → ((j : ℕ) → k ≤ j → f j ≡ numbered_from k xs j) → length xs ≤ n → gather k n f ≡ xs
  unfolding gather
  gathered_from k zero [] f agrees h = refl
  gathered_from k zero (x ∷ xs) f agrees h = absurd (omega arith)
  gathered_from k (suc n) [] f agrees h =
      ap (λ o. option_to_list o ++ gather (suc k) n f) (agrees k (omega arith)) ∙ gathered_from (suc k) n [] f (λ j l. agrees j (omega arith)) (omega arith)
  gathered_from k (suc n) (x ∷ xs) f agrees h =
      ap (λ o. option_to_list o ++ gather (suc k) n f) (agrees k (omega arith) ∙ put_here (numbered_from (suc k) xs) k (Some x))
      ∙ ap (λ l. x ∷ l)
      (gathered_from (suc k) n xs f (λ j l. agrees j (omega arith) ∙ put_other (numbered_from (suc k) xs) k (Some x) j (λ e. omega arith)) (omega arith))

  -- the numbers 1 to 9,999 give the list back
  pub standing_is : (xs : List X) → length xs ≤ 9999 → standing (numbered_from 1 xs) ≡ xs
  standing_is xs h = gathered_from 1 9999 xs (numbered_from 1 xs) (λ j l. refl) h
