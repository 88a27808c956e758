-- Closing a table point by point: what relaxing through one point keeps, and what it gains.
use Rattle.std.proofs.Common.{◌≡◌, ℕ, ◌+◌, ◌<◌, true, false, get_or, ℤ, pos, negsuc, ◌+ℤ◌, ◌≤ℤ◌, Result, Ok, Err, IsOk, OnOk, MatchResult, ◌↔◌, sym, refl, ◌∙◌, inl, inr, arith, below_more}
use lib.Signed.{≤ℤ_refl}
use Rattle.std.specs.Int.{int_min}
use Rattle.std.specs.Result.{is_ok}
use Rattle.std.proofs.lemmas.Int.{ints, clamps}
use Rattle.std.proofs.lemmas.Bool.{false≢true}
use Rattle.model.specs.Plans.{View, Sound, Tighter}
use Rattle.model.proofs.Entries.{sound_low}
use Rattle.tables.specs.Closures.{Greatest, NoneUnder}
use Rattle.tables.specs.Views.{bounds_view, table_view}
use Rattle.tables.specs.Ways.{ClosedThrough, LongThrough, Through, Low, Relaxed, Settles}
use Rattle.tables.specs.declared.bounds.Bounds.{Bounds}
use Rattle.tables.specs.declared.tables.Table.{Table}
use Rattle.tables.proofs.Entries.{pair_cases, at_high, at_outside}
use Rattle.tables.proofs.Lowers.{settled_of}
use Rattle.tables.proofs.Orders.{tighter_trans}

relaxed_trans : {a b c : View} → Relaxed a b → Relaxed b c → Relaxed a c
relaxed_trans ab bc = record { tighter = tighter_trans bc.tighter ab.tighter; keeps = λ n s u. bc.keeps n s (ab.keeps n s u) }

-- no sound table below a has more from i to j than the way over k
way_bounds : (a n : View) (i k j : ℕ) → i < a.points → k < a.points → j < a.points → Sound n → Tighter n a → n.at i j ≤ℤ (a.at i k +ℤ a.at k j)
way_bounds a n i k j hi hk hj s u =
    let inside : (p : ℕ) → p < a.points → p < n.points = λ p h. omega (arith, u.same) in
    omega (arith, ints, s.triangle i k j (inside i hi) (inside k hk) (inside j hj), u.below i k (inside i hi) (inside k hk), u.below k j (inside k hk) (inside j hj))

-- over a sound table no way is too short
long_over_sound : (a n : View) (k : ℕ) → k < a.points → Sound n → Tighter n a → LongThrough k a.points a
long_over_sound a n k hk s u i hi j hj = omega (arith, ints, way_bounds a n i k j hi hk hj s u, sound_low n s i j)

-- three ways that are closed over k, and where the way from k' over k and back is not below 0
lesser_ways : (ij ik kj ik' k'j k'k kk' : ℤ) → ij ≤ℤ (ik +ℤ kj) → k'j ≤ℤ (k'k +ℤ kj) → ik' ≤ℤ (ik +ℤ kk') → pos 0 ≤ℤ (k'k +ℤ kk')
    → int_min ij (ik' +ℤ k'j) ≤ℤ (int_min ik (ik' +ℤ k'k) +ℤ int_min kj (kk' +ℤ k'j))
lesser_ways ij ik kj ik' k'j k'k kk' p q r s = omega (arith, ints, clamps)

module _ (k : ℕ) (a b : View) (t : Through k a.points a b) (hk : k < a.points) (level : pos 0 ≤ℤ a.at k k) where
  falls : (i j : ℕ) → i < a.points → j < a.points → b.at i j ≤ℤ a.at i j
  falls i j hi hj = omega (arith, ints, clamps, t.least i hi j hj)

  relaxes : Relaxed a b
  relaxes =
      let inside : (p : ℕ) → p < b.points → p < a.points = λ p h. omega (arith, t.same) in
      record {
        tighter = record { same = t.same; below = λ i j hi hj. falls i j (inside i hi) (inside j hj) };
        keeps = λ n s u.
            let fits : (p : ℕ) → p < n.points → p < a.points = λ p h. omega (arith, u.same) in
            record {
              same = u.same ∙ sym t.same;
              below = λ i j hi hj.
                  omega (arith, ints, clamps, t.least i (fits i hi) j (fits j hj), u.below i j hi hj, way_bounds a n i k j (fits i hi) hk (fits j hj) s u);
            };
      }

  closed_here : ClosedThrough k b
  closed_here i j hi hj =
      let ia : i < a.points = omega (arith, t.same) in
      let ja : j < a.points = omega (arith, t.same) in
      omega (arith, ints, clamps, t.least i ia j ja, t.least i ia k hk, t.least k hk j ja)

  stays_closed : (p : ℕ) → p < a.points → ClosedThrough p a → ClosedThrough p b
  stays_closed p hp c i j hi hj =
      let ia : i < a.points = omega (arith, t.same) in
      let ja : j < a.points = omega (arith, t.same) in
      let back : pos 0 ≤ℤ (a.at k p +ℤ a.at p k) = omega (arith, ints, c k k hk hk) in
      omega (
        arith,
        ints,
        t.least i ia j ja,
        t.least i ia p hp,
        t.least p hp j ja,
        lesser_ways (a.at i j) (a.at i p) (a.at p j) (a.at i k) (a.at k j) (a.at k p) (a.at p k) (c i j ia ja) (c k j hk ja) (c i k ia hk) back,
      )

  -- relaxing through a point that does not come before itself
  settles : LongThrough k a.points a → Settles k a b
  settles long =
      record {
        relaxed = relaxes;
        low = λ low i j hi hj.
            let ia : i < a.points = omega (arith, t.same) in
            let ja : j < a.points = omega (arith, t.same) in
            omega (arith, ints, clamps, t.least i ia j ja, low i j ia ja, long i ia j ja);
        closed = closed_here;
        stays = stays_closed;
      }

-- the same, by whether relaxing found a way that is too short for any table
pub settles_or_none : {T E : Type 0} (k : ℕ) (a b : View) (r : Result T E) → k < a.points → pos 0 ≤ℤ a.at k k → IsOk r ↔ LongThrough k a.points a → OnOk r (Through k a.points a b)
    → MatchResult r (λ _. Settles k a b) (λ _. NoneUnder a)
settles_or_none k a b (Ok _) hk level long through = settles k a b through hk level (long.0 refl)
settles_or_none k a b (Err _) hk level long through = λ n s u. false≢true (long.1 (long_over_sound a n k hk s u))

-- what a step of closing gives where it succeeds, and where it fails
pub settled_at_ok : {T E : Type 0} (k : ℕ) (a b : View) (r : Result T E) → true ≡ is_ok r → MatchResult r (λ _. Settles k a b) (λ _. NoneUnder a) → Settles k a b
settled_at_ok k a b (Ok _) e h = h
settled_at_ok k a b (Err _) e h = absurd (false≢true (sym e))

pub none_at_err : {T E : Type 0} (k : ℕ) (a b : View) (r : Result T E) → false ≡ is_ok r → MatchResult r (λ _. Settles k a b) (λ _. NoneUnder a) → NoneUnder a
none_at_err k a b (Ok _) e h = absurd (false≢true e)
none_at_err k a b (Err _) e h = h

-- in the midst of closing t: m is t's view relaxed, and closed through the points below q and those that t has settled
pub record Closing (t : Table) (q : ℕ) (m : View) : Type 0 where
  pub relaxed : Relaxed (table_view t) m
  pub low : Low m
  pub below : (p : ℕ) → p < q → ClosedThrough p m
  pub settled : (p : ℕ) → p < m.points → get_or t.settled p false ≡ true → ClosedThrough p m

pub closing_none : (t : Table) → Closing t 0 (table_view t)
closing_none t =
    record {
      relaxed = record { tighter = record { same = refl; below = λ i j hi hj. ≤ℤ_refl ((table_view t).at i j) }; keeps = λ n s u. u };
      low = λ i j hi hj. t.low i j;
      below = λ p h. absurd (omega arith);
      settled = λ p h e i j hi hj. settled_of t.settled (table_view t) t.through p i j (e, h, hi, hj);
    }

-- a settled point
pub closing_over : (t : Table) (k : ℕ) (m : View) → Closing t k m → k < m.points → get_or t.settled k false ≡ true → Closing t (k + 1) m
closing_over t k m so hk e = record { relaxed = so.relaxed; low = so.low; below = below_more _ _ so.below (so.settled k hk e); settled = so.settled }

-- a point that is settled with this step
pub closing_more : (t : Table) (k : ℕ) (m x : View) → Closing t k m → k < m.points → Settles k m x → Closing t (k + 1) x
closing_more t k m x so hk step =
    let same : x.points ≡ m.points = step.relaxed.tighter.same in
    record {
      relaxed = relaxed_trans so.relaxed step.relaxed;
      low = step.low so.low;
      below = below_more _ _ (λ p h. step.stays p (omega arith) (so.below p h)) step.closed;
      settled = λ p h e. step.stays p (omega arith) (so.settled p (omega arith) e);
    }

-- bounds that are closed through every point
module _ (t : Table) (b : Bounds) (so : Closing t (bounds_view b).points (bounds_view b)) where
  pub all_low : (i j : ℕ) → negsuc 10079 ≤ℤ (bounds_view b).at i j
  all_low i j = elim (pair_cases (bounds_view b).points i j) [ inl h ↦ so.low i j h.0 h.1 | inr h ↦ omega (arith, ints, at_outside b i j h) ]

  pub all_diagonal : (i : ℕ) → i < (bounds_view b).points → (bounds_view b).at i i ≤ℤ pos 0
  all_diagonal i hi = omega (arith, ints, so.relaxed.tighter.below i i hi hi, t.diagonal i (omega (arith, so.relaxed.tighter.same)))

  pub greatest : Greatest (table_view t) (bounds_view b)
  greatest =
      record {
        sound = record {
          some = omega (arith, t.some, so.relaxed.tighter.same);
          within = at_high b;
          outside = at_outside b;
          zero = λ i hi. omega (arith, ints, so.below i hi i i hi hi, all_diagonal i hi);
          triangle = λ i j k hi hj hk. so.below j hj i k hi hk;
        };
        under = so.relaxed.tighter;
        most = so.relaxed.keeps;
      }
