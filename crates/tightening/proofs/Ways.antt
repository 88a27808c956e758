-- The way from the first table to the greatest closed one.
use Rattle.std.proofs.Common.{◌≡◌, ℕ, ◌<◌, ◌≤◌, ◌⊎◌, List, [], ◌∷◌, map, ℤ, pos, ◌≤ℤ◌, Some, sym, refl, ◌∙◌, subst, inl, inr, ⊎_elim, arith}
use Rattle.std.proofs.lemmas.Int.{ints}
use Rattle.std.proofs.lemmas.Bool.{cases_eq}
use Rattle.std.proofs.lemmas.Bool.Decides.{nat_tests}
use Rattle.model.proofs.Gathers.{under_number}
use Rattle.model.specs.Closed.{Slips, SlipsHeld, Closed, NoneClosed, Tightened}
use Rattle.model.specs.Meanings.{Meaning}
use Rattle.model.specs.Narrowings.{Narrowed}
use Rattle.model.specs.Plans.{View}
use Rattle.model.specs.Uses.{Uses, In}
use Rattle.model.specs.declared.slips.Distance.{Distance}
use Rattle.promise_laws.proofs.Steps.{over_start, over_lowered, fits_below, rests}
use Rattle.promise_laws.specs.Held.{UsesHeld}
use Rattle.promise_laws.specs.Steps.{Over}
use Rattle.register.proofs.Gathered.{standing_items}
use Rattle.register.specs.Lookups.{lookup, what_of}
use Rattle.register.specs.Standing.{items_of, stands}
use Rattle.register.specs.declared.records.Numbered.{Numbered}
use Rattle.register.specs.declared.registers.Register.{Register}
use Rattle.model.proofs.Entries.{sound_low}
use Rattle.tables.specs.Views.{start_view}
use Rattle.tightening.specs.Asked.{distances, TooLow, Posts}
use Rattle.tightening.specs.Rounds.{Ends, Rests, Falls, Underway}

-- ---- slips by number and in the list

in_list : (xs : List (Numbered Distance)) (k : ℕ) (d : Distance) → lookup xs k ≡ Some d → In d (map what_of xs)
in_list [] k d e = cc
in_list (x ∷ xs) k d e = ⊎_elim
    (λ (same : k ≡ x.number). inl (first same))
    (λ ne. inr (in_list xs k d (later ne)))
    (cases_eq k x.number)
  where
    first : k ≡ x.number → x.what ≡ d
    first same = let s : Some x.what ≡ Some d = grind (arith, nat_tests) in cc

    later : (k ≡ x.number → ⊥) → lookup xs k ≡ Some d
    later ne = grind (arith, nat_tests)

module _ {most : ℕ} (s : Register Distance most) where
  posted_in : (k : ℕ) (d : Distance) → stands s k ≡ Some d → In d (distances (items_of s))
  posted_in k d e = in_list (items_of s) k d e

  in_posted : (d : Distance) → In d (distances (items_of s)) → (k : ℕ) × (stands s k ≡ Some d)
  in_posted d h = under_number d 1 9999 (stands s) (subst (In d) (sym (standing_items s)) h)

  -- ---- the first table

  module _ (h n : ℕ) (r : Meaning) where
    start_over : Over h n (stands s) r (start_view n h)
    start_over = over_start h n (stands s) r (start_view n h) refl (λ i j hi hj. wide i j hi hj (cases_eq i j) (cases_eq j 0))
      where
        wide : (i j : ℕ) → i < n → j < n → (i ≡ j) ⊎ (i ≡ j → ⊥) → (j ≡ 0) ⊎ (j ≡ 0 → ⊥) → (pos h ≤ℤ (start_view n h).at i j) ⊎ (((i ≡ j) ⊎ (j ≡ 0)) × (pos 0 ≤ℤ (start_view n h).at i j))
        wide i j hi hj (inl e) z = inr (inl e, grind (arith, nat_tests, ints))
        wide i j hi hj (inr ne) (inl e) = inr (inr e, grind (arith, nat_tests, ints))
        wide i j hi hj (inr ne) (inr nz) = inl (grind (arith, nat_tests, ints))

    pub begun : (m : View) → SlipsHeld n (stands s) → Narrowed (Posts (distances (items_of s))) (start_view n h) m → Underway h n (stands s) r m
    begun m held narrowed = record {
      points = narrowed.points;
      fits = record {
        short = λ i j hi hj. let a = (narrowed.least i j hi hj).below in let b : (start_view n h).at i j ≤ℤ pos h = grind (arith, nat_tests, ints) in omega (arith, ints);
        opening = λ i hi. let a = (narrowed.least i 0 hi (omega arith)).below in let b : (start_view n h).at i 0 ≤ℤ pos 0 = grind (arith, nat_tests, ints) in omega (arith, ints);
        posted = λ k d e. let l = held k d e in (narrowed.least d.from d.to l.0 l.1).under d.minutes (d, posted_in k d e, refl, refl, refl);
      };
      over = over_lowered h n (stands s) r (start_view n h) m narrowed.points start_over
          (λ k closed i j hi hj. ⊎_elim (λ e. inl (omega (arith, ints))) (λ p. inr (asked k closed i j (m.at i j) p)) (narrowed.least i j hi hj).reached);
    }
      where
        asked : (k : View) → Closed h n (stands s) r k → (i j : ℕ) (v : ℤ) → Posts (distances (items_of s)) i j v → k.at i j ≤ℤ v
        asked k closed i j v (d, l, fi, fj, fv) =
            let w = in_posted d l in
            rw (fi, fj, fv) (closed.posted w.0 d w.1)

    not_begun : TooLow (distances (items_of s)) → NoneClosed h n (stands s) r
    not_begun (d, l, low) k closed =
        let w = in_posted d l in
        let a = closed.posted w.0 d w.1 in
        let b = sound_low k closed.sound d.from d.to in
        omega (arith, ints)

    -- a day that has no first table has no closed one
    pub none_known : n ≤ 64 → h ≤ 10080 → (n ≡ 0) ⊎ (64 < n) ⊎ (10080 < h) ⊎ TooLow (distances (items_of s)) → NoneClosed h n (stands s) r
    none_known few near (inl e) k closed = let a = closed.sound.some in let b = closed.points in omega arith
    none_known few near (inr (inl l)) k closed = absurd (omega arith)
    none_known few near (inr (inr (inl l))) k closed = absurd (omega arith)
    none_known few near (inr (inr (inr w))) k closed = not_begun w k closed

-- ---- the rounds

module _ (h n : ℕ) (slips : Slips) (us : Uses) (r : Meaning) (held : UsesHeld n us) (m : View) (way : Underway h n slips r m) where
  held_there : UsesHeld m.points us
  held_there = subst (λ k. UsesHeld k us) (sym way.points) held

  over_there : Over h m.points slips r m
  over_there = subst (λ k. Over h k slips r m) (sym way.points) way.over

  pub lower_underway : SlipsHeld n slips → (x : View) → Falls us r m x → Underway h n slips r x
  lower_underway known x f = record {
    points = f.under.same ∙ way.points;
    fits = fits_below h n slips m x known way.points way.fits f.under;
    over = subst (λ k. Over h k slips r x) way.points (f.keeps h slips held_there over_there);
  }

  pub rest_tightened : SlipsHeld n slips → (x : View) → Rests us r m x → Tightened h n slips r x
  rest_tightened known x f =
      rests h n slips r x (f.under.same ∙ way.points) f.sound (fits_below h n slips m x known way.points way.fits f.under)
      (subst (λ k. Over h k slips r x) way.points (f.keeps h slips held_there over_there)) f.not_refused
      (λ i j b hi hj g. let p = way.points in f.bounded i j b (omega arith) (omega arith) g)

  pub none_left : Ends us r m → NoneClosed h n slips r
  none_left e = subst (λ k. NoneClosed h k slips r) way.points (e h slips held_there over_there)
