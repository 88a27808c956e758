-- Words and their bits: bit p of w is w / 2 ^ p % 2.
use Rattle.std.proofs.Common.{◌≡◌, ℕ, zero, suc, ◌/◌, ◌%◌, ◌^◌, ◌<◌, sym, ap, ◌∙◌, add-one, one-add, arith}
use lib.Count.{ones, ones_step}
use Rattle.std.proofs.lemmas.Nat.{shr-shr, shr_below}

-- a bit but the lowest is one of the half
half_bit : (w p : ℕ) → w / 2 / 2 ^ p % 2 ≡ w / 2 ^ suc p % 2
half_bit w p = ap (λ (k : ℕ). k % 2) (shr-shr w 1 p ∙ ap (λ (k : ℕ). w / 2 ^ k) (one-add p))

-- a word without ones has no bit that is one
pub no_bit : (w p : ℕ) → ones w ≡ 0 → w / 2 ^ p % 2 ≡ 0
no_bit w zero none = omega (arith, ones_step w)
no_bit w (suc p) none = sym (half_bit w p) ∙ no_bit (w / 2) p (omega (arith, ones_step w))

-- words of n bits are equal if their bits are
pub same_word : (n v w : ℕ) → v < 2 ^ n → w < 2 ^ n → ((p : ℕ) → p < n → v / 2 ^ p % 2 ≡ w / 2 ^ p % 2) → v ≡ w
same_word zero v w short-v short-w bits = omega arith
same_word (suc n) v w short-v short-w bits =
    let lowest = bits 0 (omega arith) in
    let halves : v / 2 ≡ w / 2 = same_word n (v / 2) (w / 2) (half_short v short-v) (half_short w short-w) (λ p l. half_bit v p ∙ bits (suc p) (omega arith) ∙ sym (half_bit w p)) in
    omega arith
  where
    half_short : (u : ℕ) → u < 2 ^ suc n → u / 2 < 2 ^ n
    half_short u short = shr_below u n 1 (rw add-one short)
