-- What holds of every use of a bunker still does once one is taken or given up.
use Rattle.std.proofs.Common.{◌≡◌, ℕ, Bool, true, false, cond, ◌&&◌, eqb, ltb, IfSome, is_ok, Some, Option, Result, sym, refl, ap, ◌∙◌, subst, arith}
use Rattle.bunker.specs.Ranges.{moves_kilos}
use Rattle.bunker.specs.Ranges.{Light}
use Rattle.model.specs.Limits.{places_of, in_range, not_taken, answer}
use Rattle.model.specs.Uses.{Uses, single, put}
use Rattle.model.specs.declared.refusals.Refusal.{Refusal}
use Rattle.model.specs.declared.refusals.Refusal.TheVariants.{NoPlace, BadUse}
use Rattle.model.specs.declared.slips.Use.{Use}
use Rattle.std.proofs.lemmas.Int.{ints}
use Rattle.std.proofs.lemmas.Bool.{false≢true}

module _ (P : Use → Type 0) (before after : ℕ → Option Use) (place number : ℕ) (o : Option Use) (all : (k : ℕ) (u : Use) → before k ≡ Some u → P u) where
  pub kept : (ok : Bool) → single after ≡ cond ok (put (single before) place number o) (single before) → (ok ≡ true → IfSome o P) → (k : ℕ) (u : Use) → after k ≡ Some u → P u
  kept false e new k u h = all k u (sym (ap (λ us. us 0 k) e) ∙ h)
  kept true e new k u h = by (eqb 0 place && eqb k number) (sym (ap (λ us. us 0 k) e) ∙ h)
    where
      by : (here : Bool) → cond here o (before k) ≡ Some u → P u
      by true g = subst (λ p. IfSome p P) g (new refl)
      by false g = all k u g

-- a use that is taken has the form
formed : (reached proper fits : Bool) (why : Option Refusal) → is_ok (answer (cond reached (cond (proper && fits) why (Some BadUse)) (Some NoPlace))) ≡ true → fits ≡ true
formed true true true why h = refl
formed true true false why h = absurd (false≢true h)
formed true false fits why h = absurd (false≢true h)
formed false proper fits why h = absurd (false≢true h)

pub taken_formed : (w : ℕ) (most : ℕ → ℕ) (fits : Bool) (us : Uses) (place number : ℕ) (u : Use) (r : Result Unit Refusal) → r ≡ answer (not_taken w most (λ q v. fits) us place number u) → is_ok r ≡ true → fits ≡ true
taken_formed w most fits us place number u r e h = formed (ltb place (places_of w)) (in_range number u) fits _ (subst (λ a. is_ok a ≡ true) e h)

-- and is not too heavy
pub formed_light : (u : Use) → moves_kilos u ≡ true → Light u
formed_light u h = (grind (arith, ints), grind (arith, ints))
