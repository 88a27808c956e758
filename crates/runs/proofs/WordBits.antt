-- The word of loose points, bit by bit.
use Rattle.std.proofs.Common.{◌≡◌, ℕ, ◌+◌, ◌-◌, ◌*◌, ◌/◌, ◌%◌, ◌^◌, ◌<◌, ◌≤◌, Bool, true, false, cond, sym, ap, ◌∙◌, subst, le_refl, arith, pow-add, below_more}
use lib.Bits.{bit_or, or_shifted_r}
use lib.Pow.{field, mod-mod-pow, low, high}
use Rattle.std.proofs.lemmas.Nat.{mul-le, one_shl}
use Rattle.model.specs.Plans.{View}
use Rattle.runs.specs.Shown.{LooseWord, loose}

-- a bit above leaves those below as they are
bit_below : (b p q w : ℕ) → q < p → w < 2 ^ p → (b * 2 ^ p + w) / 2 ^ q % 2 ≡ w / 2 ^ q % 2
bit_below b p q w lt short =
    let x : ℕ = b * 2 ^ p + w in
    let k : ℕ = 1 + q in
    let e : (p - k) + k ≡ p = omega arith in
    let same : x % 2 ^ k ≡ w % 2 ^ k = sym (mod-mod-pow x (p - k) k) ∙ (ap (λ (n : ℕ). x % 2 ^ n % 2 ^ k) e ∙ ap (λ (n : ℕ). n % 2 ^ k) (low b p short)) in
    sym (field x 1 q) ∙ (ap (λ (n : ℕ). n / 2 ^ q) same ∙ field w 1 q)

pub no_bits : (m : View) → LooseWord m 0 0
no_bits m = record { short = omega arith; bits = λ p l. absurd (omega arith) }

module _ (m : View) (p w : ℕ) (so : LooseWord m p w) where
  -- one more bit
  bit_more : (b : ℕ) → cond (loose m p) 1 0 ≡ b → b ≤ 1 → LooseWord m (p + 1) (b * 2 ^ p + w)
  bit_more b is small =
      let here : (b * 2 ^ p + w) / 2 ^ p % 2 ≡ cond (loose m p) 1 0 = ap (λ (n : ℕ). n % 2) (high b p so.short) ∙ ((let r : b % 2 ≡ b = omega arith in r) ∙ sym is) in
      record {
        short = omega (arith, so.short, pow-add 2 p 1, mul-le b (2 ^ p) 1 (2 ^ p) small (le_refl (2 ^ p)));
        bits = below_more _ _ (λ q lt. bit_below b p q w lt so.short ∙ so.bits q lt) here;
      }

  pub fixed_bit : loose m p ≡ false → LooseWord m (p + 1) w
  fixed_bit fails =
      let e : 0 * 2 ^ p + w ≡ w = omega arith in
      subst (λ (n : ℕ). LooseWord m (p + 1) n) e (bit_more 0 (ap (λ (t : Bool). cond t 1 0) fails) (omega arith))

  pub loose_bit : p < 64 → loose m p ≡ true → LooseWord m (p + 1) (bit_or w ((1 * 2 ^ p) % 2 ^ 64))
  loose_bit near passes =
      let e : 2 ^ p ≡ 1 * 2 ^ p = omega arith in
      let added : bit_or w ((1 * 2 ^ p) % 2 ^ 64) ≡ 1 * 2 ^ p + w = ap (λ (n : ℕ). bit_or w n) (one_shl p 64 near ∙ e) ∙ or_shifted_r 1 p w so.short in
      subst (λ (n : ℕ). LooseWord m (p + 1) n) (sym added) (bit_more 1 (ap (λ (t : Bool). cond t 1 0) passes) (omega arith))
