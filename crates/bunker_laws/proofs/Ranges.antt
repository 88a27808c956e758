-- How large sums over uses can be.
use Rattle.std.proofs.Common.{ℕ, ◌*◌, ◌≤◌, Bool, cond, List, [], ◌∷◌, length, ℤ, pos, neg_ℤ, ◌≤ℤ◌, refl, inl, inr, arith}
use lib.Signed.{≤ℤ_refl}
use Rattle.std.specs.Int.{int_max, int_min}
use Rattle.std.proofs.lemmas.Int.{ints}
use Rattle.model.specs.Plans.{View}
use Rattle.model.specs.Uses.{In}
use Rattle.model.specs.declared.moments.Moment.{Moment}
use Rattle.model.specs.declared.slips.Use.{Use}
use Rattle.bunker_laws.specs.Bunkers.{total, delivery, can_be_active, can_be_idle, high, low}

-- from -n to n
abbrev pub Among : ℕ → ℤ → Type 0
Among n z = (neg_ℤ (pos n) ≤ℤ z) × (z ≤ℤ pos n)

-- the highest and the lowest worth of a use lie in the range of its kilos
pub high_within : (m : View) (x : Moment) (u : Use) (n : ℕ) → Among n u.kilos → Among n (high m x u)
high_within m x u n h = option_high (delivery u) (can_be_active m x u) (can_be_idle m x u) u.kilos n h
  where
    option_high : (d a i : Bool) (z : ℤ) (n : ℕ) → Among n z → Among n (cond a (cond i (int_max (cond d z (neg_ℤ z)) (pos 0)) (cond d z (neg_ℤ z))) (pos 0))
    option_high d a i z n h = (grind (arith, ints), grind (arith, ints))

pub low_within : (m : View) (x : Moment) (u : Use) (n : ℕ) → Among n u.kilos → Among n (low m x u)
low_within m x u n h = option_low (delivery u) (can_be_active m x u) (can_be_idle m x u) u.kilos n h
  where
    option_low : (d a i : Bool) (z : ℤ) (n : ℕ) → Among n z → Among n (cond a (cond i (int_min (cond d z (neg_ℤ z)) (pos 0)) (cond d z (neg_ℤ z))) (pos 0))
    option_low d a i z n h = (grind (arith, ints), grind (arith, ints))

-- terms of at most a million make a sum of at most a million for each use; at a numeral n the product is a numeral
pub total_within : (us : List Use) (f : Use → ℤ) (n : ℕ) → length us ≤ n → ((u : Use) → In u us → Among 1000000 (f u)) → Among (1000000 * n) (total f us)
total_within us f n l h = let e = by_length us h in (omega (arith, ints), omega (arith, ints))
  where
    by_length : (us : List Use) → ((u : Use) → In u us → Among 1000000 (f u)) → Among (1000000 * length us) (total f us)
    by_length [] h = (≤ℤ_refl (pos 0), ≤ℤ_refl (pos 0))
    by_length (v ∷ us) h =
        let here = h v (inl refl) in
        let rest = by_length us (λ u i. h u (inr i)) in
        (omega (arith, ints), omega (arith, ints))

pub total_high_within : (us : List Use) (m : View) (x : Moment) (n : ℕ) → length us ≤ n → ((u : Use) → In u us → Among 1000000 u.kilos) → Among (1000000 * n) (total (high m x) us)
total_high_within us m x n l h = total_within us (high m x) n l (λ u i. high_within m x u 1000000 (h u i))

pub total_low_within : (us : List Use) (m : View) (x : Moment) (n : ℕ) → length us ≤ n → ((u : Use) → In u us → Among 1000000 u.kilos) → Among (1000000 * n) (total (low m x) us)
total_low_within us m x n l h = total_within us (low m x) n l (λ u i. low_within m x u 1000000 (h u i))
