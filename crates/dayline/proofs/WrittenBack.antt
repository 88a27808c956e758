-- A number is read from just the bytes that write it in decimals.
use Rattle.std.proofs.Common.{◌≡◌, ℕ, zero, suc, ◌+◌, ◌-◌, ◌*◌, ◌<◌, ◌≤◌, true, false, ◌&&◌, eqb, leb, List, [], ◌∷◌, length, get_or, ℤ, pos, negsuc, Some, None, decimal, Option, sym, refl, ap, ◌∙◌, subst, ⊎_elim, arith, rules}
use Rattle.std.proofs.lemmas.Fmt.{decimal-digits_value, digits_decimal, digits_value-decimal, decimal_nonempty, first_decimal, decimal_digit}
use Rattle.std.proofs.lemmas.List.{nil_from_length}
use Rattle.std.proofs.lemmas.Str.Parse.{IsNumeralModel, numerals_by_fold}
use Rattle.std.proofs.lemmas.Bool.{cases_Bool, cases_eq, cond-true, cond-false, and_parts, and_from, and_left, ne_eqb, eqb-true, eqb-false, leb-true, le-leb}
use Rattle.std.specs.Option.{option_map}
use Rattle.std.specs.Fmt.{signed_decimal}
use Rattle.std.specs.Str.{all_ascii_digits}
use Rattle.dayline.specs.Numbers.{digits_from, positive, in_range, minus, number, Near, ReadsWritten}

-- the number of digits, from the left
abbrev value_from : ℕ → List ℕ → ℕ
value_from n [] = n
value_from n (b ∷ bs) = value_from (n * 10 + (b - 48)) bs

ours : IsNumeralModel (λ ds. all_ascii_digits ds ≡ true) (value_from 0)
ours = numerals_by_fold _ (search rules) value_from (search rules)

-- digits that are read
digits_to : (n : ℕ) (bs : List ℕ) (m : ℕ) → digits_from n bs ≡ Some m → (all_ascii_digits bs ≡ true) × (value_from n bs ≡ m)
digits_to n [] m e = let z : n ≡ m = cc in (refl, z)
digits_to n (b ∷ bs) m e =
    ⊎_elim
    (λ (t : (leb 48 b && leb b 57) ≡ true).
    let r = digits_to (n * 10 + (b - 48)) bs m (sym (cond-true _ _ _ t) ∙ e) in
    (and_from _ _ t r.0, r.1))
    (λ (f : (leb 48 b && leb b 57) ≡ false).
    let z : ◌≡◌ {A = Option ℕ} None (Some m) = sym (cond-false _ _ _ f) ∙ e in
    let q : ◌≡◌ {A = ℕ} 0 1 = cc in absurd (omega arith))
    (cases_Bool (leb 48 b && leb b 57))

digits_from_holds : (n : ℕ) (bs : List ℕ) → all_ascii_digits bs ≡ true → digits_from n bs ≡ Some (value_from n bs)
digits_from_holds n [] d = refl
digits_from_holds n (b ∷ bs) d = let p = and_parts _ _ d in cond-true _ _ _ p.0 ∙ digits_from_holds (n * 10 + (b - 48)) bs p.1

none_some : {A : Type 0} (x : A) → ◌≡◌ {A = Option A} None (Some x) → ⊥
none_some x p = let q : ◌≡◌ {A = ℕ} 0 1 = cc in omega arith

in_range_to : (o : Option ℕ) (m : ℕ) → in_range o ≡ Some m → (o ≡ Some m) × (m ≤ 100000000)
in_range_to None m e = absurd (none_some m e)
in_range_to (Some n) m e =
    ⊎_elim
    (λ (t : leb n 100000000 ≡ true).
    let s : ◌≡◌ {A = Option ℕ} (Some n) (Some m) = sym (cond-true _ _ _ t) ∙ e in
    let q : n ≡ m = cc in (s, omega (arith, leb-true n 100000000 t)))
    (λ (f : leb n 100000000 ≡ false). absurd (none_some m (sym (cond-false _ _ _ f) ∙ e)))
    (cases_Bool (leb n 100000000))

-- a positive number in range is read from just its decimals
positive_to : (bs : List ℕ) (m : ℕ) → in_range (positive bs) ≡ Some m → (bs ≡ decimal m) × (0 < m) × (m ≤ 100000000)
positive_to [] m e = absurd (none_some m e)
positive_to (b ∷ bs) m e =
    let r = in_range_to (positive (b ∷ bs)) m e in
    ⊎_elim
    (λ (t : eqb b 48 ≡ true). absurd (none_some m (sym (cond-true _ _ _ t) ∙ r.0)))
    (λ (f : eqb b 48 ≡ false).
    let d = digits_to 0 (b ∷ bs) m (sym (cond-false _ _ _ f) ∙ r.0) in
    let first : b ≡ 48 → suc (length bs) ≡ 1 = λ z. absurd (eqb-false b 48 f z) in
    let w : decimal (value_from 0 (b ∷ bs)) ≡ b ∷ bs = decimal-digits_value ours (b ∷ bs) d.0 (omega arith) first (omega (arith, d.1, r.1)) in
    let s : b ∷ bs ≡ decimal m = sym w ∙ ap decimal d.1 in
    let nz : 0 < m
    = ⊎_elim
    (λ (z : m ≡ 0).
    let o : b ∷ bs ≡ (48 + m) ∷ [] = s ∙ decimal_digit m (omega arith) in
    let h : b ≡ 48 + m = ap (λ l. get_or l 0 0) o in
    absurd (eqb-false b 48 f (omega arith)))
    (λ (n : m ≡ 0 → ⊥). omega arith)
    (cases_eq m 0) in
    (s, nz, r.1))
    (cases_Bool (eqb b 48))

positive_from : (m : ℕ) (bs : List ℕ) → bs ≡ decimal m → 0 < m → m ≤ 100000000 → in_range (positive bs) ≡ Some m
positive_from m [] e z h = absurd (omega (arith, decimal_nonempty m (omega arith), ap length e))
positive_from m (b ∷ bs) e z h =
    let v : value_from 0 (b ∷ bs) ≡ m = ap (value_from 0) e ∙ digits_value-decimal ours m (omega arith) in
    let d : all_ascii_digits (b ∷ bs) ≡ true = ap all_ascii_digits e ∙ digits_decimal ours m (omega arith) in
    let first : b ≡ get_or (decimal m) 0 0 = ap (λ l. get_or l 0 0) e in
    let f : eqb b 48 ≡ false = ne_eqb b 48 (λ q. omega (arith, first_decimal m z (omega arith))) in
    ap in_range (cond-false _ _ _ f ∙ (digits_from_holds 0 (b ∷ bs) d ∙ ap (λ n. Some n) v)) ∙ cond-true _ _ _ (le-leb m 100000000 h)

mapped_to : {A B : Type 0} (f : A → B) (o : Option A) (y : B) → option_map f o ≡ Some y → (x : A) × (o ≡ Some x) × (f x ≡ y)
mapped_to f None y e = absurd (none_some y e)
mapped_to f (Some x) y e = let q : f x ≡ y = cc in (x, refl, q)

minus_is : (m : ℕ) → 0 < m → m ≤ 100000000 → (n : ℕ) × (m ≡ suc n) × (minus m ≡ negsuc n) × (n ≤ 99999999)
minus_is zero h k = absurd (omega arith)
minus_is (suc n) h k = (n, refl, refl, omega arith)

number_to : (bs : List ℕ) (z : ℤ) → number bs ≡ Some z → Near z × (bs ≡ signed_decimal z)
number_to [] z e = absurd (none_some z e)
number_to (b ∷ bs) z e =
    ⊎_elim
    (λ (t : eqb b 45 ≡ true).
    let m = mapped_to minus (in_range (positive bs)) z (sym (cond-true _ _ _ t) ∙ e) in
    let p = positive_to bs m.0 m.1 in
    let n = minus_is m.0 p.1 p.2 in
    let near : Near (negsuc n.0) = n.3 in
    let s : b ∷ bs ≡ signed_decimal (negsuc n.0) = ap (λ k. k ∷ bs) (eqb-true b 45 t) ∙ ap (λ l. 45 ∷ l) (p.0 ∙ ap decimal n.1) in
    subst (λ y. Near y × (b ∷ bs ≡ signed_decimal y)) (sym n.2 ∙ m.2) (near, s))
    (λ (f : eqb b 45 ≡ false).
    let e₁ = sym (cond-false _ _ _ f) ∙ e in
    ⊎_elim
    (λ (t : (eqb b 48 && eqb (length bs) 0) ≡ true).
    let q = and_parts _ _ t in
    let z₀ : ◌≡◌ {A = Option ℤ} (Some (pos 0)) (Some z) = sym (cond-true _ _ _ t) ∙ e₁ in
    let z₁ : pos 0 ≡ z = cc in
    let one : b ∷ bs ≡ signed_decimal (pos 0)
    = ap (λ k. k ∷ bs) (eqb-true b 48 q.0) ∙ (ap (λ l. 48 ∷ l) (nil_from_length bs (eqb-true (length bs) 0 q.1)) ∙ sym (decimal_digit 0 (omega arith))) in
    subst (λ y. Near y × (b ∷ bs ≡ signed_decimal y)) z₁ (omega arith, one))
    (λ (g : (eqb b 48 && eqb (length bs) 0) ≡ false).
    let m = mapped_to pos (in_range (positive (b ∷ bs))) z (sym (cond-false _ _ _ g) ∙ e₁) in
    let p = positive_to (b ∷ bs) m.0 m.1 in
    subst (λ y. Near y × (b ∷ bs ≡ signed_decimal y)) m.2 (p.2, p.0))
    (cases_Bool (eqb b 48 && eqb (length bs) 0)))
    (cases_Bool (eqb b 45))

-- the first byte of a number of digits is a digit, so no minus; and it is 0 only in `0`
plain_from : (m : ℕ) (bs : List ℕ) → bs ≡ decimal m → 0 < m → m ≤ 100000000 → number bs ≡ Some (pos m)
plain_from m [] e z h = absurd (omega (arith, decimal_nonempty m (omega arith), ap length e))
plain_from m (b ∷ bs) e z h =
    let first : b ≡ get_or (decimal m) 0 0 = ap (λ l. get_or l 0 0) e in
    let more = first_decimal m z (omega arith) in
    cond-false _ _ _ (ne_eqb b 45 (λ q. omega (arith, more)))
    ∙ (cond-false _ _ _ (and_left _ _ (ne_eqb b 48 (λ q. omega (arith, more)))) ∙ ap (option_map pos) (positive_from m (b ∷ bs) e z h))

number_from : (z : ℤ) (bs : List ℕ) → Near z → bs ≡ signed_decimal z → number bs ≡ Some z
number_from (pos zero) bs h e = ap number (e ∙ decimal_digit 0 (omega arith))
number_from (pos (suc n)) bs h e = plain_from (suc n) bs e (omega arith) h
number_from (negsuc n) bs h e = ap number e ∙ ap (option_map minus) (positive_from (suc n) (decimal (suc n)) refl (omega arith) (omega arith))

pub reads_written : (bs : List ℕ) (r : Option ℤ) → r ≡ number bs → ReadsWritten bs r
reads_written bs None e = λ z near w. none_some z (e ∙ number_from z bs near w)
reads_written bs (Some z) e = number_to bs z (sym e)

-- a number that is read is near
pub number_near : (bs : List ℕ) (z : ℤ) → number bs ≡ Some z → Near z
number_near bs z e = (number_to bs z e).0
