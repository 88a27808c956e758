-- Two rules as one: their uses joined and parted again, and that both of two lawful meanings are lawful.
use Rattle.std.proofs.Common.{◌≡◌, ℕ, ◌+◌, ◌-◌, ◌<◌, ◌≤◌, Bool, true, false, cond, ◌&&◌, eqb, ltb, ℤ, ◌≤ℤ◌, IfSome, Some, None, Option, sym, refl, ap, inl, inr, ⊎_elim, arith}
use mathlib.Core.Path.{fun_ext}
use Rattle.std.proofs.lemmas.Bool.{ltb-true, ltb-false}
use Rattle.std.proofs.lemmas.Bool.Decides.{nat_tests}
use Rattle.model.specs.Meanings.{Meaning, Lawful, both}
use Rattle.model.specs.Plans.{View, table_of}
use Rattle.model.specs.Uses.{Uses, put, joined, front, back, Holds}
use Rattle.model.specs.declared.slips.Use.{Use}

-- the places in front of joined uses hold the first of the two, if that has nothing from place n on
pub front_joined : (n : ℕ) (a b : Uses) → ((q : ℕ) → n ≤ q → a q ≡ (λ k. None)) → front n (joined n a b) ≡ a
front_joined n a b outside = fun_ext (λ q. by q (ltb q n) refl)
  where
    by : (q : ℕ) (x : Bool) → ltb q n ≡ x → cond x (cond x (a q) (b (q - n))) (λ k. None) ≡ a q
    by q true e = refl
    by q false e = sym (outside q (ltb-false q n e))

pub back_joined : (n : ℕ) (a b : Uses) → back n (joined n a b) ≡ b
back_joined n a b = fun_ext (λ q. by q (ltb (n + q) n) refl)
  where
    by : (q : ℕ) (x : Bool) → ltb (n + q) n ≡ x → cond x (a (n + q)) (b ((n + q) - n)) ≡ b q
    by q true e = absurd (omega (arith, ltb-true (n + q) n e))
    by q false e = ap b (omega arith)

-- a use put at a place in front goes to the first of the two, and at a place behind to the second
pub put_front : (n : ℕ) (a b : Uses) (q k : ℕ) (o : Option Use) → q < n → put (joined n a b) q k o ≡ joined n (put a q k o) b
put_front n a b q k o h = fun_ext (λ p. fun_ext (λ i. by p i (ltb p n) refl))
  where
    by : (p i : ℕ) (x : Bool) → ltb p n ≡ x → cond (eqb p q && eqb i k) o (cond x (a p) (b (p - n)) i) ≡ cond x (put a q k o p) (b (p - n)) i
    by p i true e = refl
    by p i false e = let l = ltb-false p n e in grind (arith, nat_tests)

pub put_back : (n : ℕ) (a b : Uses) (q k : ℕ) (o : Option Use) → n ≤ q → put (joined n a b) q k o ≡ joined n a (put b (q - n) k o)
put_back n a b q k o h = fun_ext (λ p. fun_ext (λ i. by p i (ltb p n) refl))
  where
    by : (p i : ℕ) (x : Bool) → ltb p n ≡ x → cond (eqb p q && eqb i k) o (cond x (a p) (b (p - n)) i) ≡ cond x (a p) (put b (q - n) k o (p - n)) i
    by p i true e = let l = ltb-true p n e in grind (arith, nat_tests)
    by p i false e = let l = ltb-false p n e in grind (arith, nat_tests)

-- a table that holds the points of all uses holds those in front, and those behind
pub holds_front : (n : ℕ) (us : Uses) (m : View) → Holds us m → Holds (front n us) m
holds_front n us m holds place number u e = by (ltb place n) e
  where
    by : (x : Bool) → cond x (us place) (λ k. None) number ≡ Some u → (u.first < m.points) × (u.last < m.points)
    by true h = holds place number u h
    by false h = let z : ◌≡◌ {A = ℕ} 0 1 = cc in omega arith

pub holds_back : (n : ℕ) (us : Uses) (m : View) → Holds us m → Holds (back n us) m
holds_back n us m holds place = holds (n + place)

-- the level lies between the highest and the lowest told, if any are
abbrev Between : Option (ℤ × ℤ) → ℤ → Type 0
Between o level = IfSome o (λ told. (told.1 ≤ℤ level) × (level ≤ℤ told.0))

either_between : (reached first : Bool) (a b : Option (ℤ × ℤ)) (x y : ℤ) → Between a x → Between b y → Between (cond reached (cond first a b) None) (cond first x y)
either_between true true a b x y f g = f
either_between true false a b x y f g = g
either_between false first a b x y f g = tt

pub both_lawful : (n : ℕ) (us : Uses) (r s : Meaning) → Lawful (front n us) r → Lawful (back n us) s → Lawful us (both n r s)
both_lawful n us r s one two = record {
  keeps = λ m t sound holds plan meets ok.
      let f = one.keeps m t sound (holds_front n us m holds) plan meets ok.0 in
      let g = two.keeps m t sound (holds_back n us m holds) plan meets ok.1 in
      (⊎_elim f.0 g.0, λ i j b. ⊎_elim (f.1 i j b) (g.1 i j b));
  narrows = λ m k sound sound' holds tight fine.
      let f = one.narrows m k sound sound' (holds_front n us m holds) tight (λ x. fine (inl x)) in
      let g = two.narrows m k sound sound' (holds_back n us m holds) tight (λ x. fine (inr x)) in (
        ⊎_elim f.0 g.0,
        λ i j b. ⊎_elim
            (λ x. ⊎_elim inl (λ w. inr (w.0, inl w.1, w.2)) (f.1 i j b x))
            (λ x. ⊎_elim inl (λ w. inr (w.0, inr w.1, w.2)) (g.1 i j b x)),
      );
  stands = λ m t sound holds plan meets v. (
    one.stands m t sound (holds_front n us m holds) plan meets v.0,
    two.stands m t sound (holds_back n us m holds) plan meets v.1,
  );
  decides = λ k t some holds plan fine. (
    one.decides k t some (holds_front n us (table_of k t) holds) plan (λ x. fine (inl x)),
    two.decides k t some (holds_back n us (table_of k t) holds) plan (λ x. fine (inr x)),
  );
  spans = λ m t sound holds plan meets place x.
      let f = one.spans m t sound (holds_front n us m holds) plan meets place x in
      let g = two.spans m t sound (holds_back n us m holds) plan meets (place - n) x in
      either_between (ltb place 64) (ltb place n) (r.levels m place x) (s.levels m (place - n) x) (r.level t place x) (s.level t (place - n) x) f g;
  depth = λ m i j b. ⊎_elim (one.depth m i j b) (two.depth m i j b);
}
