-- A number, by its first byte.
use Rattle.std.proofs.Common.{◌≡◌, ℕ, ◌-◌, ◌<◌, ◌≤◌, eqb, ◌⊎◌, List, [], ◌∷◌, length, get_or, take, drop, pos, ◌-ℤ◌, Some, None, Option, sym, refl, ap, ◌∙◌, ⊎_elim, arith, w32, to_z, of_z}
use Rattle.std.proofs.lemmas.List.{take_rest}
use Rattle.std.proofs.lemmas.Int.{ints}
use Rattle.std.proofs.lemmas.Bool.{cond-true, cond-false, eq-eqb, ne_eqb, and_from, and_left, and_right}
use Rattle.std.specs.Option.{option_map}
use Rattle.dayline.specs.Numbers.{positive, in_range, minus, number}

-- o is what stands behind the minus
pub after_minus : (bs : List ℕ) (o : Option ℕ) → 0 < length bs → get_or bs 0 0 ≡ 45 → o ≡ in_range (positive (take (length bs - 1) (drop 1 bs))) → option_map minus o ≡ number bs
after_minus [] o h e p = absurd (omega arith)
after_minus (b ∷ bs) o h e p =
    ap (option_map minus) (p ∙ ap (λ l. in_range (positive l)) (take_rest (b ∷ bs) 1)) ∙ sym (cond-true (eqb b 45) _ _ (eq-eqb b 45 e))

pub zero_alone : (bs : List ℕ) → get_or bs 0 0 ≡ 48 → length bs ≡ 1 → Some (pos 0) ≡ number bs
zero_alone [] e h = absurd (omega arith)
zero_alone (b ∷ bs) e h =
    sym (cond-false (eqb b 45) _ _ (ne_eqb b 45 (λ q. omega arith)) ∙ cond-true _ _ _ (and_from (eqb b 48) (eqb (length bs) 0) (eq-eqb b 48 e) (eq-eqb (length bs) 0 (omega arith))))

pub without_sign : (bs : List ℕ) (o : Option ℕ) → 0 < length bs → (get_or bs 0 0 ≡ 45 → ⊥) → (((get_or bs 0 0 ≡ 48) × (length bs ≡ 1 → ⊥)) ⊎ (get_or bs 0 0 ≡ 48 → ⊥)) → o ≡ in_range (positive bs) → option_map pos o ≡ number bs
without_sign [] o h n z p = absurd (omega arith)
without_sign (b ∷ bs) o h n z p =
    ap (option_map pos) p
    ∙ sym
    (cond-false (eqb b 45) _ _ (ne_eqb b 45 n)
    ∙ cond-false _ _ _ (⊎_elim (λ q. and_right (eqb b 48) (eqb (length bs) 0) (ne_eqb (length bs) 0 (λ l. q.1 (omega arith)))) (λ q. and_left (eqb b 48) (eqb (length bs) 0) (ne_eqb b 48 q)) z))

-- a small number as code negates and casts it
pub negated : (n : ℕ) → n ≤ 100000000 → to_z w32 (of_z w32 (pos 0 -ℤ to_z w32 n)) ≡ minus n
negated n l = omega (arith, ints)

pub cast : (n : ℕ) → n ≤ 100000000 → to_z w32 n ≡ pos n
cast n l = omega (arith, ints)

pub no_bytes : (bs : List ℕ) → length bs ≡ 0 → None ≡ number bs
no_bytes [] h = refl
no_bytes (b ∷ bs) h = absurd (omega arith)
