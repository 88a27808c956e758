-- What holds of the two parts of a pair holds of the pair.
use Rattle.std.proofs.Common.{◌≡◌, ℕ, ◌+◌, ◌-◌, ◌<◌, ◌≤◌, Bool, true, false, is_some, Decides, None, sym, subst, ⊎_elim, arith}
use Rattle.std.proofs.lemmas.Bool.{cases_lt, lt-ltb, le-ltb}
use Rattle.std.proofs.lemmas.Bool.Decides.{not_from_Decides}
use Rattle.model.proofs.Pairs.{front_joined, back_joined}
use Rattle.model.specs.Meanings.{Meaning}
use Rattle.model.specs.Uses.{Uses, joined, front, back}
use Rattle.rules.specs.Calls.{AnyUse}
use Rattle.rules.specs.declared.rule.Rule.{Ghosts}

-- what holds of the meanings of two rules holds of them over the uses that their pair hands them
module _ {A B S Z : Type 0} (left : Ghosts A S) (right : Ghosts B Z) (x : A) (y : B) (beyond : (q : ℕ) → left.width (left.settings x) ≤ q → left.uses x q ≡ (λ k. None)) where
  abbrev width : ℕ
  width = left.width (left.settings x)

  abbrev uses : Uses
  uses = joined width (left.uses x) (right.uses y)

  pub handed : (P : Meaning → Meaning → Type 0) → P (left.meaning (left.settings x) (left.uses x)) (right.meaning (right.settings y) (right.uses y)) → P (left.meaning (left.settings x) (front width uses)) (right.meaning (right.settings y) (back width uses))
  handed P h =
      subst (λ us. P (left.meaning (left.settings x) us) (right.meaning (right.settings y) (back width uses))) (sym (front_joined width (left.uses x) (right.uses y) beyond))
      (subst (λ us. P (left.meaning (left.settings x) (left.uses x)) (right.meaning (right.settings y) us)) (sym (back_joined width (left.uses x) (right.uses y))) h)

-- a use of the second stands behind the places of the first
pub any_in_second : (n : ℕ) (a b : Uses) (x y : Bool) → x ≡ false → Decides x (AnyUse a) → Decides y (AnyUse b) → Decides y (AnyUse (joined n a b))
any_in_second n a b x y e d f = (λ h. let w = f.0 h in (n + w.0, w.1, shown w.0 w.1 w.2), λ w. found w.0 w.1 w.2)
  where
    shown : (q k : ℕ) → is_some (b q k) ≡ true → is_some (joined n a b (n + q) k) ≡ true
    shown q k h = let t = le-ltb (n + q) n (omega arith) in let r : n + q - n ≡ q = omega arith in rw (t, r) h

    found : (q k : ℕ) → is_some (joined n a b q k) ≡ true → y ≡ true
    found q k h = ⊎_elim
        (λ (l : q < n). let t = lt-ltb q n l in absurd (not_from_Decides x d e (q, k, rw t at h)))
        (λ (l : n ≤ q). let t = le-ltb q n l in f.1 (q - n, k, rw t at h))
        (cases_lt q n)
