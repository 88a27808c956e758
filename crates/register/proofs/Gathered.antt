-- The records of a rising list are those that its lookup gathers, so the lookup determines the list.
use Rattle.std.proofs.Common.{◌≡◌, ℕ, zero, suc, ◌+◌, ◌<◌, ◌≤◌, List, [], ◌∷◌, ◌++◌, map, length, get_or, Some, None, Option, sym, refl, ap, ◌∙◌, ⊎_elim, arith}
use mathlib.Core.List.{map-append}
use Rattle.model.specs.Uses.{gather, standing}
use Rattle.register.proofs.Looks.{lookup_absent}
use Rattle.register.proofs.Puts.{put_here, put_other}
use Rattle.register.specs.Lookups.{number_of, what_of, numbers, lookup, numbered, Rises, Proper}
use Rattle.register.specs.Standing.{items_of, stands}
use Rattle.register.specs.declared.records.Numbered.{Numbered}
use Rattle.register.specs.declared.registers.Register.{Register}
use Rattle.std.proofs.lemmas.List.{length-map}
use Rattle.std.proofs.lemmas.Bool.{cases_lt}
use Rattle.std.proofs.lemmas.Bool.Decides.{nat_tests}
use Rattle.std.specs.Option.{option_map, option_to_list}

-- lookups that agree from k on gather alike
gather_alike : {X : Type 0} (k n : ℕ) (f g : ℕ → Option X) → ((j : ℕ) → k ≤ j → f j ≡ g j) → gather k n f ≡ gather k n g
unfolding gather
gather_alike k zero f g h = refl
gather_alike k (suc n) f g h =
    ap (λ o. option_to_list o ++ gather (suc k) n f) (h k (omega arith))
    ∙ ap (λ l. option_to_list (g k) ++ l) (gather_alike (suc k) n f g (λ j l. h j (omega arith)))

module _ {T : Type 0} where
  what_of_holds : (k : ℕ) (o : Option T) → map what_of (option_to_list (option_map (λ x. record { number = k; what = x }) o)) ≡ option_to_list o
  what_of_holds k None = refl
  what_of_holds k (Some x) = refl

  -- without the numbers, what the lookup itself gathers
  unnumbered : (k n : ℕ) (f : ℕ → Option T) → map what_of (gather k n (numbered f)) ≡ gather k n f
  unfolding gather
  unnumbered k zero f = refl
  unnumbered k (suc n) f =
      map-append what_of (option_to_list (numbered f k)) (gather (suc k) n (numbered f))
      ∙ (ap (λ l. l ++ map what_of (gather (suc k) n (numbered f))) (what_of_holds k (f k))
      ∙ ap (λ l. option_to_list (f k) ++ l) (unnumbered (suc k) n f))

  -- the first number of a rising list is the least
  first_least : (x : Numbered T) (xs : List (Numbered T)) → Rises (numbers (x ∷ xs)) → (i : ℕ) → i < length (x ∷ xs) → x.number ≤ get_or (numbers (x ∷ xs)) i 0
  first_least x xs r zero l = omega arith
  first_least x xs r (suc i) l = omega (arith, r 0 (suc i) 0 (omega arith) (omega (arith, length-map xs number_of)))

  -- a list with its numbers from k on, n of them, is gathered there
  gathered_range : (k n : ℕ) (xs : List (Numbered T)) → Rises (numbers xs) → ((i : ℕ) → i < length xs → (k ≤ get_or (numbers xs) i 0) × (get_or (numbers xs) i 0 < k + n)) → gather k n (numbered (lookup xs)) ≡ xs
  unfolding gather
  gathered_range k zero [] r within = refl
  gathered_range k zero (x ∷ xs) r within = absurd (omega (arith, within 0 (omega arith)))
  gathered_range k (suc n) [] r within = gathered_range (suc k) n [] r (λ i l. absurd (omega arith))
  gathered_range k (suc n) (x ∷ xs) r within =
      let f = numbered (lookup (x ∷ xs)) in
      ⊎_elim
      (λ (higher : k < x.number).
      let none : lookup (x ∷ xs) k ≡ None = lookup_absent (x ∷ xs) k (λ i l e. omega (arith, first_least x xs r i l)) in
      ap (λ o. option_to_list (option_map (λ y. record { number = k; what = y }) o) ++ gather (suc k) n f) none
      ∙ gathered_range (suc k) n (x ∷ xs) r (λ i l. (omega (arith, first_least x xs r i l), omega (arith, within i l))))
      (λ (here : x.number ≤ k).
      let same : k ≡ x.number = omega (arith, within 0 (omega arith)) in
      let some : f k ≡ Some x =
      ap (λ m. numbered (lookup (x ∷ xs)) m) same
      ∙ ap (option_map (λ y. record { number = x.number; what = y })) (put_here (lookup xs) x.number (Some x.what)) in
      ap (λ o. option_to_list o ++ gather (suc k) n f) some
      ∙ ap (λ l. x ∷ l)
      (gather_alike (suc k) n f (numbered (lookup xs)) (λ j l. ap (option_map (λ y. record { number = j; what = y })) (put_other (lookup xs) x.number (Some x.what) j (λ e. omega arith)))
      ∙ gathered_range (suc k) n xs (λ a b d lt l. r (suc a) (suc b) d (omega arith) (omega arith))
      (λ i l. (omega (arith, r 0 (suc i) 0 (omega arith) (omega (arith, length-map xs number_of))), omega (arith, within (suc i) (omega arith))))))
      (cases_lt k x.number)

  -- the records of a list under slip numbers, with their numbers and without
  module _ (xs : List (Numbered T)) (r : Rises (numbers xs)) (proper : Proper (numbers xs)) where
    pub items : standing (numbered (lookup xs)) ≡ xs
    items =
        gathered_range 1 9999 xs r
        (λ i l. let h = proper i 0 (omega (arith, length-map xs number_of)) in (grind (arith, nat_tests), grind (arith, nat_tests)))

    pub gathered : standing (lookup xs) ≡ map what_of xs
    gathered = sym (unnumbered 1 9999 (lookup xs)) ∙ ap (map what_of) items

  module _ {MOST : ℕ} where
    pub standing_items : (r : Register T MOST) → standing (stands r) ≡ map what_of (items_of r)
    standing_items r = gathered (items_of r) r.rises r.proper

    pub standing_length : (r : Register T MOST) → length (standing (stands r)) ≡ length (items_of r)
    standing_length r = ap length (standing_items r) ∙ length-map (items_of r) what_of

    -- registers that look up alike hold the same records
    pub alike : (r s : Register T MOST) → stands r ≡ stands s → items_of r ≡ items_of s
    alike r s e =
        sym (items (items_of r) r.rises r.proper)
        ∙ (ap (λ f. standing (numbered f)) e
        ∙ items (items_of s) s.rises s.proper)
