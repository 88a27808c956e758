-- A view with one entry lowered.
use Rattle.std.proofs.Common.{◌≡◌, ℕ, ◌<◌, Bool, true, false, ◌&&◌, eqb, ltb, List, length, get_or, set, ℤ, ◌+ℤ◌, ◌≤ℤ◌, sym, refl, ap, ◌∙◌, subst, inl, inr, arith}
use mathlib.Core.Logic.{∥∥₁_elim}
use lib.Dec.{T_prop}
use lib.Signed.{≤ℤ_refl, le_z}
use Rattle.std.specs.Int.{int_min}
use Rattle.std.proofs.lemmas.List.{get_or_past, get_or-set_same, get_or-set_other, set_past}
use Rattle.std.proofs.lemmas.Int.{ints, clamps}
use Rattle.std.proofs.lemmas.Bool.{false≢true, cases_eq, cases_lt, cond_both, cond-true, cond-false, and_parts, eq-eqb, ne_eqb, lt-ltb, eqb-true, ltb-true, and_from, and_left, and_right}
use Rattle.model.specs.Plans.{View, Tighter}
use Rattle.tables.specs.Views.{lowered}
use Rattle.tables.specs.Ways.{Settled}
use Rattle.tables.proofs.Orders.{same_view}

min_z_left : (x y : ℤ) → x ≤ℤ y → int_min x y ≡ x
min_z_left x y h = omega (arith, ints, clamps)

-- the entry itself
pub lowered_here : (m : View) (i j : ℕ) (v : ℤ) → i < m.points → j < m.points → (lowered m i j v).at i j ≡ int_min (m.at i j) v
lowered_here m i j v hi hj =
    cond-true _ _ _ (and_from _ _ (and_from _ _ (eq-eqb i i refl) (eq-eqb j j refl)) (and_from _ _ (lt-ltb i m.points hi) (lt-ltb j m.points hj)))

-- any other
pub lowered_elsewhere : (m : View) (i j : ℕ) (v : ℤ) (p q : ℕ) → ((p ≡ i) × (q ≡ j) → ⊥) → (lowered m i j v).at p q ≡ m.at p q
lowered_elsewhere m i j v p q n =
    elim (cases_eq p i) [
      | inl ep ↦ cond-false _ _ _ (and_left _ _ (and_right _ _ (ne_eqb q j (λ eq. n (ep, eq)))))
      | inr np ↦ cond-false _ _ _ (and_left _ _ (and_left _ _ (ne_eqb p i np)))
    ]

-- what holds of the lesser at (i, j), and of each entry as it was, holds of each entry now
pub lowered_by : (m : View) (i j : ℕ) (v : ℤ) (P : ℕ → ℕ → ℤ → Type 0) → (i < m.points → j < m.points → P i j (int_min (m.at i j) v)) → (p q : ℕ) → P p q (m.at p q) → P p q ((lowered m i j v).at p q)
lowered_by m i j v P here p q there =
    cond_both ((eqb p i && eqb q j) && (ltb i m.points && ltb j m.points)) (int_min (m.at p q) v) (m.at p q) (P p q)
    (λ e.
    let both = and_parts _ _ e in
    let place = and_parts _ _ both.0 in
    let inside = and_parts _ _ both.1 in
    let ep : p ≡ i = eqb-true p i place.0 in
    let eq : q ≡ j = eqb-true q j place.1 in
    rw (ep, eq) (here (ltb-true i m.points inside.0) (ltb-true j m.points inside.1)))
    (λ _. there)

-- a bound that the table has changes nothing
pub lowered_same : (m : View) (i j : ℕ) (v : ℤ) → (i < m.points → j < m.points → m.at i j ≤ℤ v) → lowered m i j v ≡ m
lowered_same m i j v h =
    same_view (lowered m i j v) m refl
    (λ p q. lowered_by m i j v (λ p q x. x ≡ m.at p q) (λ hi hj. min_z_left (m.at i j) v (h hi hj)) p q refl)

-- no entry rises
pub lowered_tighter : (m : View) (i j : ℕ) (v : ℤ) → Tighter (lowered m i j v) m
lowered_tighter m i j v =
    record {
      same = refl;
      below = λ p q hp hq.
          lowered_by m i j v (λ p q x. x ≤ℤ m.at p q) (λ hi hj. omega (arith, ints, clamps)) p q (≤ℤ_refl (m.at p q));
    }

-- a mark that is there after one was taken away
mark_stays : (marks : List Bool) (i k : ℕ) → get_or (set marks i false) k false ≡ true → ((k ≡ i) → ⊥) × (get_or marks k false ≡ true)
mark_stays marks i k e =
    elim (cases_eq k i) [
      | inl s ↦ absurd (elim (cases_lt i (length marks)) [
        | inl h ↦ false≢true (sym (get_or-set_same marks i false false h) ∙ subst (λ (p : ℕ). get_or (set marks i false) p false ≡ true) s e)
        | inr h ↦ false≢true (sym (get_or_past marks i false h) ∙ ap (λ (xs : List Bool). get_or xs i false) (sym (set_past marks i false h)) ∙ subst (λ (p : ℕ). get_or (set marks i false) p false ≡ true) s e)
      ])
      | inr n ↦ (n, sym (get_or-set_other marks i k false false n) ∙ e)
    ]

-- the fact that a table holds of its marks
pub settled_of : (marks : List Bool) (m : View) → ∥ Settled marks m ∥₁ → Settled marks m
settled_of marks m h k i j inside =
    ∥∥₁_elim h (λ x y. λ z. record { le = T_prop (le_z (m.at i j) (m.at i k +ℤ m.at k j)) x.le y.le z }) (λ s. s k i j inside)

-- only the ways over i and over j can be shorter for it
pub settled_lowered : (marks : List Bool) (m : View) (i j : ℕ) (v : ℤ) → Settled marks m → Settled (set (set marks i false) j false) (lowered m i j v)
settled_lowered marks m i j v s k p q (e, hk, hp, hq) =
    let second = mark_stays (set marks i false) j k e in
    let first = mark_stays marks i k second.1 in
    omega (
      arith,
      ints,
      s k p q (first.1, hk, hp, hq),
      (lowered_tighter m i j v).below p q hp hq,
      lowered_elsewhere m i j v p k (λ w. second.0 w.1),
      lowered_elsewhere m i j v k q (λ w. first.0 w.0),
    )
