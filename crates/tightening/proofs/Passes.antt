-- Passes over the slips and over the pairs of a table, step by step.
use Rattle.std.proofs.Common.{get_or, ◌+◌, ◌<◌, Bool, false, length, refl, ◌≡◌, ℕ, true, List, [], ◌∷◌, ◌++◌, ℤ, sym, ◌∙◌, subst, inl, inr, ⊎_elim, arith}
use Rattle.std.specs.List.{AllWithin, HoldsAt, range_with_len}
use Rattle.std.specs.Bool.{Decides, MatchBool}
use Rattle.std.proofs.lemmas.List.FromFn.{length-range_with_len, get_or-range_with_len}
use Rattle.std.proofs.lemmas.Bool.{cases_lt, false≢true}
use Rattle.model.proofs.Members.{in_either, in_front, in_last}
use Rattle.model.proofs.Narrowings.{narrowed_then, narrowed_like}
use Rattle.model.specs.Narrowings.{Narrowed}
use Rattle.model.specs.Plans.{View}
use Rattle.model.specs.Uses.{In}
use Rattle.model.specs.declared.slips.Distance.{Distance}
use Rattle.tables.proofs.Narrows.{One, narrowed_one}
use Rattle.tables.specs.Views.{lowered}
use Rattle.tightening.specs.Asked.{Posts, RowBounds}

-- one more slip, which asks for v minutes
pub posts_more : (ds : List Distance) (d : Distance) (v : ℤ) (a m x : View) → v ≡ d.minutes → Narrowed (Posts ds) a m → x ≡ lowered m d.from d.to v → Narrowed (Posts (ds ++ d ∷ [])) a x
posts_more ds d v a m x told so_far one =
    narrowed_like _ _ a x
    (λ i j w. ⊎_elim (λ h. (h.0, in_front h.0 ds (d ∷ []) h.1, h.2, h.3, h.4)) (λ h. (d, in_last d ds, h.0, h.1, h.2 ∙ told)))
    (λ i j w h. ⊎_elim (λ l. inl (h.0, l, h.2, h.3, h.4)) (λ l. inr (same h.0 i j w l h.2 h.3 h.4)) (in_either h.0 ds (d ∷ []) h.1))
    (narrowed_then (Posts ds) (One d.from d.to v) a m x so_far (subst (Narrowed (One d.from d.to v) m) (sym one) (narrowed_one m d.from d.to v)))
  where
    same : (s : Distance) (i j : ℕ) (w : ℤ) → In s (d ∷ []) → i ≡ s.from → j ≡ s.to → w ≡ s.minutes → One d.from d.to v i j w
    same s i j w (inl e) f g h = (cc, cc, cc)
    same s i j w (inr l) f g h = absurd l

-- one more bound from i, which is v
pub row_more : (b : View) (i j : ℕ) (v : ℤ) (a m x : View) → v ≡ b.at i j → Narrowed (RowBounds b i j) a m → x ≡ lowered m i j v → Narrowed (RowBounds b i (j + 1)) a x
row_more b i j v a m x told so_far one =
    narrowed_like _ _ a x
    (λ p q w. ⊎_elim (λ h. (h.0, omega arith, h.2)) (λ h. (h.0, omega arith, rw (h.0, h.1) (h.2 ∙ told))))
    (λ p q w h. ⊎_elim (λ l. inl (h.0, l, h.2)) (λ last. let e : q ≡ j = omega arith in inr (h.0, e, h.2 ∙ rw (h.0, e) (sym told))) (cases_lt q j))
    (narrowed_then (RowBounds b i j) (One i j v) a m x so_far (subst (Narrowed (One i j v) m) (sym one) (narrowed_one m i j v)))

-- `all` over the numbers below n, told of the numbers
module _ (n : ℕ) (P : ℕ → Type 0) where
  here : (j : ℕ) → j < n → get_or (range_with_len 0 n) j 0 ≡ j
  here j lt = omega (arith, get_or-range_with_len 0 n j 0 lt)

  pub decides_below : (r : Bool) → MatchBool r (AllWithin P (range_with_len 0 n) 0 (length (range_with_len 0 n))) ((k : ℕ) × (k < length (range_with_len 0 n)) × HoldsAt (λ j. P j → ⊥) (range_with_len 0 n) k) → Decides r ((j : ℕ) → j < n → P j)
  decides_below true all = (λ _ j lt. subst P (here j lt) (all j 0 (omega arith) (omega (arith, length-range_with_len 0 n))), λ _. refl)
  decides_below false (k, lt, fails) =
      let short : k < n = omega (arith, length-range_with_len 0 n) in
      (λ e. absurd (false≢true e), λ all. absurd (fails 0 (subst P (sym (here k short)) (all k short))))
