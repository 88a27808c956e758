-- Digits, one after another.
use Rattle.std.proofs.Common.{◌≡◌, ℕ, ◌+◌, ◌-◌, ◌*◌, ◌<◌, ◌≤◌, true, false, ◌&&◌, leb, ◌⊎◌, List, [], ◌∷◌, length, get_or, drop, Some, None, Option, sym, ap, ◌∙◌, ⊎_elim, arith}
use Rattle.std.proofs.lemmas.List.{at_drop_more, at_drop_all}
use Rattle.std.proofs.lemmas.Bool.{cases_Bool, cond-true, cond-false, and_left, and_right, and_from, lt-leb, le-leb}
use Rattle.dayline.specs.Numbers.{digits_from, in_range}

-- the number that digits from the left write, after the number n, and in range
abbrev pub told : ℕ → List ℕ → Option ℕ
told n bs = in_range (digits_from n bs)

-- further digits never lower a number
pub too_large : (n : ℕ) (bs : List ℕ) → 100000000 < n → told n bs ≡ None
too_large n [] h = cond-false _ _ _ (lt-leb n 100000000 h)
too_large n (b ∷ bs) h =
    ⊎_elim
    (λ (t : (leb 48 b && leb b 57) ≡ true). ap in_range (cond-true _ _ _ t) ∙ too_large (n * 10 + (b - 48)) bs (omega arith))
    (λ (f : (leb 48 b && leb b 57) ≡ false). ap in_range (cond-false _ _ _ f))
    (cases_Bool (leb 48 b && leb b 57))

module _ (n : ℕ) (bs : List ℕ) (i : ℕ) (lt : i < length bs) where
  pub no_digit : (get_or bs i 0 < 48) ⊎ ((48 ≤ get_or bs i 0) × (57 < get_or bs i 0)) → told n (drop i bs) ≡ None
  no_digit h =
      let b = get_or bs i 0 in
      let none : (leb 48 b && leb b 57) ≡ false
      = ⊎_elim (λ a. and_left (leb 48 b) (leb b 57) (lt-leb 48 b a)) (λ a. and_right (leb 48 b) (leb b 57) (lt-leb b 57 a.1)) h in
      at_drop_more (told n) bs i 0 lt ∙ ap in_range (cond-false _ _ _ none)

  pub one_digit : (d : ℕ) → 48 ≤ get_or bs i 0 → get_or bs i 0 ≤ 57 → d ≡ get_or bs i 0 - 48 → told n (drop i bs) ≡ told (n * 10 + d) (drop (i + 1) bs)
  one_digit d h k e =
      at_drop_more (told n) bs i 0 lt
      ∙ (ap in_range (cond-true _ _ _ (and_from _ _ (le-leb 48 (get_or bs i 0) h) (le-leb (get_or bs i 0) 57 k)))
      ∙ ap (λ m. told (n * 10 + m) (drop (i + 1) bs)) (sym e))

  pub last_digit : (d : ℕ) → 48 ≤ get_or bs i 0 → get_or bs i 0 ≤ 57 → d ≡ get_or bs i 0 - 48 → 100000000 < n * 10 + d → told n (drop i bs) ≡ None
  last_digit d h k e l = one_digit d h k e ∙ too_large (n * 10 + d) (drop (i + 1) bs) l

pub no_more : (n : ℕ) (bs : List ℕ) (i : ℕ) → length bs ≤ i → n ≤ 100000000 → told n (drop i bs) ≡ Some n
no_more n bs i h k = at_drop_all (told n) bs i h ∙ cond-true _ _ _ (le-leb n 100000000 k)
