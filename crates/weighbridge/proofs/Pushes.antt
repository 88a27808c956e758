-- What one more crossing adds to what a table tells of the crossings before it.
use Rattle.std.proofs.Common.{◌≡◌, ℕ, ◌⊎◌, List, [], ◌∷◌, ◌++◌, ℤ, pos, ◌≤ℤ◌, sym, ap, ◌∙◌, subst, inl, inr, ⊎_elim}
use Rattle.std.proofs.lemmas.List.{map-append}
use Rattle.std.specs.List.{IsLastAndRest}
use Rattle.model.proofs.Members.{in_front, in_last}
use Rattle.model.proofs.Narrowings.{narrowed_like}
use Rattle.model.specs.Narrowings.{Narrowed}
use Rattle.model.specs.Plans.{View}
use Rattle.model.specs.declared.slips.Use.{Use}
use Rattle.register.specs.Lookups.{what_of}
use Rattle.register.specs.declared.records.Numbered.{Numbered}
use Rattle.weighbridge.proofs.Lists.{in_push, in_earlier, two_front, two_earlier, two_last, two_swap, two_push}
use Rattle.weighbridge.proofs.Prefixes.{Grows, Shrinks}
use Rattle.weighbridge.specs.Crossings.{uses_of, Overlap, Conflicts, Apart, Clear, Turn, Turns, Precedence}
use Rattle.weighbridge_laws.specs.Weighbridges.{Refuses, Vouches, Gives}

module _ (m : View) where
  pub refuses_grows : Grows (λ us. Refuses us m) (Conflicts m)
  refuses_grows = record { none = none; front = front; last = last; push = push }
    where
      none : Refuses [] m → ⊥
      none (Refuses.reversed u h low) = h
      none (Refuses.overlap a b two ab ba) = ⊎_elim (λ h. h) (λ h. h) two

      front : (us vs : List Use) → Refuses us m → Refuses (us ++ vs) m
      front us vs (Refuses.reversed u h low) = Refuses.reversed u (in_front u us vs h) low
      front us vs (Refuses.overlap a b two ab ba) = Refuses.overlap a b (two_front a b us vs two) ab ba

      last : (us : List Use) (u : Use) → Conflicts m us u → Refuses (us ++ u ∷ []) m
      last us u (inl low) = Refuses.reversed u (in_last u us) low
      last us u (inr w) = Refuses.overlap w.0 u (two_last w.0 u us w.1) w.2.0 w.2.1

      push : (us : List Use) (u : Use) → Refuses (us ++ u ∷ []) m → Refuses us m ⊎ Conflicts m us u
      push us u (Refuses.reversed v h low) = ⊎_elim (λ k. inl (Refuses.reversed v k low)) (λ e. inr (inl (rw e low))) (in_push v u us h)
      push us u (Refuses.overlap a b two ab ba) =
          two_push a b u us
          (λ h. inl (Refuses.overlap a b h ab ba))
          (λ h e. inr (inr (a, h, subst (Overlap m a) (sym e) (ab, ba))))
          (λ h e. inr (inr (b, h, subst (Overlap m b) (sym e) (ba, ab))))
          two

  pub vouches_shrinks : Shrinks (λ us. Vouches us m) (Clear m)
  vouches_shrinks = record {
    none = record { order = λ u h. absurd h; apart = λ a b. ⊎_elim (λ h. absurd h) (λ h. absurd h) };
    front = λ us vs v. record { order = λ u h. v.order u (in_front u us vs h); apart = λ a b h. v.apart a b (two_front a b us vs h) };
    last = λ us u v. (v.order u (in_last u us), λ a h. v.apart a u (two_last a u us h));
    push = λ us u v clear. record {
      order = λ w h. ⊎_elim (v.order w) (λ e. subst (λ x. m.at x.last x.first ≤ℤ pos 0) e clear.0) (in_push w u us h);
      apart = λ a b. two_push a b u us (v.apart a b) (λ h e. subst (Apart m a) e (clear.1 a h)) (λ h e. ⊎_elim inr inl (subst (Apart m b) e (clear.1 b h)));
    };
  }

module _ (m : View) (us : List Use) (u : Use) where
  given : (i j : ℕ) (c : ℤ) → Gives us m i j c ⊎ Precedence m us u i j c → Gives (us ++ u ∷ []) m i j c
  given i j c (inl (Gives.order v h ei ej ec)) = Gives.order v (in_earlier v u us h) ei ej ec
  given i j c (inl (Gives.turn a b two low ei ej ec)) = Gives.turn a b (two_earlier a b u us two) low ei ej ec
  given i j c (inr (inl w)) = Gives.order u (in_last u us) w.0 w.1 w.2
  given i j c (inr (inr (a, h, inl w))) = Gives.turn a u (two_last a u us h) w.0 w.1 w.2 w.3
  given i j c (inr (inr (a, h, inr w))) = Gives.turn u a (two_swap a u (us ++ u ∷ []) (two_last a u us h)) w.0 w.1 w.2 w.3

  given_parts : (i j : ℕ) (c : ℤ) → Gives (us ++ u ∷ []) m i j c → Gives us m i j c ⊎ Precedence m us u i j c
  given_parts i j c (Gives.order v h ei ej ec) = ⊎_elim (λ k. inl (Gives.order v k ei ej ec)) (λ e. inr (inl (rw e (ei, ej, ec)))) (in_push v u us h)
  given_parts i j c (Gives.turn a b two low ei ej ec) =
      two_push a b u us
      (λ h. inl (Gives.turn a b h low ei ej ec))
      (λ h e. inr (inr (a, h, inl (subst (λ x. Turn m a x i j c) (sym e) (low, ei, ej, ec)))))
      (λ h e. inr (inr (b, h, inr (subst (λ x. Turn m x b i j c) (sym e) (low, ei, ej, ec)))))
      two

  -- the turns of b with each of the uses
  module _ (b : Use) where
    turned : (i j : ℕ) (c : ℤ) → Turns m us b i j c ⊎ (Turn m u b i j c ⊎ Turn m b u i j c) → Turns m (us ++ u ∷ []) b i j c
    turned i j c (inl w) = (w.0, in_earlier w.0 u us w.1, w.2)
    turned i j c (inr h) = (u, in_last u us, h)

    turned_parts : (i j : ℕ) (c : ℤ) → Turns m (us ++ u ∷ []) b i j c → Turns m us b i j c ⊎ (Turn m u b i j c ⊎ Turn m b u i j c)
    turned_parts i j c w = ⊎_elim (λ h. inl (w.0, h, w.2)) (λ e. inr (subst (λ a. Turn m a b i j c ⊎ Turn m b a i j c) (sym e) w.2)) (in_push w.0 u us w.1)

    pub turns_more : (before after : View) → Narrowed (λ i j c. Turns m us b i j c ⊎ (Turn m u b i j c ⊎ Turn m b u i j c)) before after → Narrowed (Turns m (us ++ u ∷ []) b) before after
    turns_more before after = narrowed_like _ (Turns m (us ++ u ∷ []) b) before after turned turned_parts

-- the last of the uses, and those before it
module _ (m : View) (xs rest : List (Numbered Use)) (x : Numbered Use) (parts : IsLastAndRest xs x rest) where
  whole : uses_of rest ++ x.what ∷ [] ≡ uses_of xs
  whole = sym (ap uses_of parts.0 ∙ map-append what_of rest (x ∷ []))

  pub gives_last : (before after : View) → Narrowed (λ i j c. Gives (uses_of rest) m i j c ⊎ Precedence m (uses_of rest) x.what i j c) before after → Narrowed (Gives (uses_of xs) m) before after
  gives_last before after n =
      subst (λ us. Narrowed (Gives us m) before after) whole
      (narrowed_like _ (Gives (uses_of rest ++ x.what ∷ []) m) before after (given m (uses_of rest) x.what) (given_parts m (uses_of rest) x.what) n)
