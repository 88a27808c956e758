-- A test of two parts, the second asked where the first leaves it open.
use Rattle.std.proofs.Common.{◌≡◌, Bool, true, false, ◌⊎◌, Decides, inl, inr, ⊎_elim}
use Rattle.std.proofs.lemmas.Bool.Decides.{not_from_Decides}

pub or_first : {P Q : Type 0} (x : Bool) → x ≡ true → Decides x P → Decides x (P ⊎ Q)
or_first x e d = (λ h. inl (d.0 h), λ h. e)

pub or_second : {P Q : Type 0} (x y : Bool) → x ≡ false → Decides x P → Decides y Q → Decides y (P ⊎ Q)
or_second x y e d f = (λ h. inr (f.0 h), ⊎_elim (λ p. absurd (not_from_Decides x d e p)) f.1)

pub and_first : {P Q : Type 0} (x : Bool) → x ≡ false → Decides x P → Decides x (P × Q)
and_first x e d = (λ h. absurd (not_from_Decides x d e (d.0 h)), λ w. d.1 w.0)

pub and_second : {P Q : Type 0} (x y : Bool) → x ≡ true → Decides x P → Decides y Q → Decides y (P × Q)
and_second x y e d f = (λ h. (d.0 e, f.0 h), λ w. f.1 w.1)
