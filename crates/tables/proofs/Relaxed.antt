-- The views of bounds whose rows are relaxed.
use Rattle.std.proofs.Common.{◌≡◌, ◌↔◌, ℕ, ℤ, List, ◌<◌, [], length, get_or, take, pos, sym, subst, ◌∙◌, inl, arith, to_z, of_z, w16}
use Rattle.std.proofs.lemmas.List.{length-take-le, get_or-take}
use Rattle.std.proofs.lemmas.Int.{ints, clamps}
use Rattle.tables.specs.Rows.{LongRows, RelaxesRows}
use Rattle.tables.specs.Views.{bounds_view}
use Rattle.tables.specs.Ways.{LongThrough, Through}
use Rattle.tables.specs.declared.bounds.Bounds.{Bounds}
use Rattle.tables.proofs.Entries.{at_inside, at_outside}

-- the bounds from k, as far as there are points
module _ (b : Bounds) (k : ℕ) (hk : k < (bounds_view b).points) where
  pub row_long : length (take b.points (get_or b.entries k [])) ≡ b.points
  unfolding bounds_view
  row_long = let few = b.few in let wide = (b.within k (omega arith)).0 in length-take-le b.points (get_or b.entries k []) (omega arith)

  row_at : (j : ℕ) → j < b.points → get_or (take b.points (get_or b.entries k [])) j (pos 0) ≡ (bounds_view b).at k j
  unfolding bounds_view
  row_at j hj = get_or-take b.points (get_or b.entries k []) j (pos 0) hj ∙ sym (at_inside b k j hk hj)

  pub long_rows : LongThrough k (bounds_view b).points (bounds_view b) → LongRows k (take b.points (get_or b.entries k [])) (length (take b.points (get_or b.entries k []))) b.entries
  unfolding bounds_view
  long_rows long i hi j hj =
      let ip : i < b.points = omega (arith, row_long) in
      let jp : j < b.points = omega (arith, row_long) in
      omega (arith, ints, long i ip j jp, row_at j jp, at_inside b i k ip hk)

  pub long_through : LongRows k (take b.points (get_or b.entries k [])) (length (take b.points (get_or b.entries k []))) b.entries → LongThrough k (bounds_view b).points (bounds_view b)
  unfolding bounds_view
  long_through long i ip j jp = omega (arith, ints, long i (omega (arith, row_long)) j (omega (arith, row_long)), row_at j jp, at_inside b i k ip hk)

  pub relaxed_through : (x : Bounds) → x.points ≡ b.points → RelaxesRows k (take b.points (get_or b.entries k [])) (length (take b.points (get_or b.entries k []))) b.entries x.entries
      → Through k (bounds_view b).points (bounds_view b) (bounds_view x)
  unfolding bounds_view
  relaxed_through x ps so =
      record {
        same = ps;
        least = λ i ip j jp.
            let row = so.relaxed i (omega (arith, row_long)) in
            omega (arith, ints, clamps, row.least j (omega (arith, row_long)), row_at j jp, at_inside x i j (omega arith) (omega arith), at_inside b i j ip jp, at_inside b i k ip hk);
        rest = λ i j hi. at_outside x i j (inl (omega arith)) ∙ sym (at_outside b i j (inl hi));
      }

  -- a row that is the one from k, however it was read
  pub told_long : {P : Type 0} {over : List ℤ} → (P ↔ LongRows k over (length over) b.entries) → over ≡ take b.points (get_or b.entries k []) → (P ↔ LongThrough k (bounds_view b).points (bounds_view b))
  told_long {P} test e =
      let t = subst (λ (xs : List ℤ). P ↔ LongRows k xs (length xs) b.entries) e test in
      (λ p. long_through (t.0 p), λ long. t.1 (long_rows long))

  pub told_relaxed : (x : Bounds) {over : List ℤ} → x.points ≡ b.points → over ≡ take b.points (get_or b.entries k []) → RelaxesRows k over (length over) b.entries x.entries → Through k (bounds_view b).points (bounds_view b) (bounds_view x)
  told_relaxed x ps e so = relaxed_through x ps (subst (λ (xs : List ℤ). RelaxesRows k xs (length xs) b.entries x.entries) e so)

  -- an entry of the row is the same when it is read and written
  pub row_kept : (j : ℕ) → to_z w16 (of_z w16 (get_or (get_or b.entries k []) j (pos 0))) ≡ get_or (get_or b.entries k []) j (pos 0)
  unfolding bounds_view
  row_kept j = let w = (b.within k (omega (arith, b.few))).1 j in omega (arith, ints, w.0, w.1)
