-- What each step of tightening rests on: every closed table stays below, or it shows that there is none.
use Rattle.std.proofs.Common.{◌≡◌, ℕ, ◌<◌, ◌⊎◌, ℤ, pos, neg_ℤ, ◌≤ℤ◌, ◌<ℤ◌, Some, inl, inr, ⊎_elim, arith}
use Rattle.std.proofs.lemmas.Int.{ints}
use Rattle.model.proofs.Entries.{sound_low}
use Rattle.model.specs.Closed.{Slips, SlipsHeld, Closed, NoneClosed, Tightened}
use Rattle.model.specs.Meanings.{Meaning, AsTight, Lawful}
use Rattle.model.specs.Narrowings.{Narrowed}
use Rattle.model.specs.Plans.{View, Sound, Tighter}
use Rattle.model.specs.Uses.{Uses}
use Rattle.model.specs.declared.slips.Distance.{Distance}
use Rattle.promise_laws.specs.Held.{UsesHeld}
use Rattle.promise_laws.specs.Steps.{Over, Fits}
use Rattle.promise_laws.proofs.Views.{uses_in}

-- a table below one that fits the day fits it too
pub fits_below : (h n : ℕ) (slips : Slips) (a m : View) → SlipsHeld n slips → a.points ≡ n → Fits h n slips a → Tighter m a → Fits h n slips m
fits_below h n slips a m held points fits tight = record {
  short = λ i j b c. omega (arith, ints, below i j b c, fits.short i j b c);
  opening = λ i b. omega (arith, ints, below i 0 b (omega arith), fits.opening i b);
  posted = λ k s e. let l = held k s e in omega (arith, ints, below s.from s.to l.0 l.1, fits.posted k s e);
}
  where
    below : (i j : ℕ) → i < n → j < n → m.at i j ≤ℤ a.at i j
    below i j b c = let same = tight.same in tight.below i j (omega arith) (omega arith)

-- a day of h minutes and n points, with its standing distance slips and what its limits mean
module _ (h n : ℕ) (slips : Slips) (r : Meaning) where
  -- ---- the first table

  -- at least 0 from a point to itself and to opening, at least h elsewhere
  pub over_start : (m : View) → m.points ≡ n → ((i j : ℕ) → i < n → j < n → (pos h ≤ℤ m.at i j) ⊎ (((i ≡ j) ⊎ (j ≡ 0)) × (pos 0 ≤ℤ m.at i j))) → Over h n slips r m
  over_start m points wide k closed = record {
    same = omega (arith, closed.points);
    below = λ i j a b.
        let c : i < n = omega (arith, closed.points) in
        let d : j < n = omega (arith, closed.points) in
        let zero : i ≡ j → k.at i j ≡ pos 0 = λ e. rw (← e) (closed.sound.zero i a) in
        let opening : j ≡ 0 → k.at i j ≤ℤ pos 0 = λ e. rw e (closed.opening i c) in
        ⊎_elim
        (λ l. omega (arith, ints, closed.short i j c d))
        (λ w. ⊎_elim (λ e. omega (arith, ints, zero e, w.1)) (λ e. omega (arith, ints, opening e, w.1)) w.0)
        (wide i j c d);
  }

  -- ---- entries lowered

  -- each entry stays, or becomes one that no closed table exceeds
  pub over_lowered : (m m' : View) → m'.points ≡ m.points → Over h n slips r m → ((k : View) → Closed h n slips r k → (i j : ℕ) → i < n → j < n → (m.at i j ≤ℤ m'.at i j) ⊎ (k.at i j ≤ℤ m'.at i j)) → Over h n slips r m'
  over_lowered m m' points over each k closed =
      let tight : Tighter k m = over k closed in
      record {
        same = omega (arith, tight.same);
        below = λ i j a b. ⊎_elim (λ l. omega (arith, ints, tight.below i j a b)) (λ l. l) (each k closed i j (omega (arith, closed.points)) (omega (arith, closed.points)));
      }

  -- the entry of a standing slip is lowered to no less than the slip's minutes
  pub over_slip : (m m' : View) (q : ℕ) (s : Distance) → slips q ≡ Some s → m'.points ≡ m.points → Over h n slips r m → ((i j : ℕ) → i < n → j < n → (m.at i j ≤ℤ m'.at i j) ⊎ ((i ≡ s.from) × (j ≡ s.to) × (s.minutes ≤ℤ m'.at i j))) → Over h n slips r m'
  over_slip m m' q s stands points over each =
      over_lowered m m' points over (λ k closed i j a b. ⊎_elim inl (λ at. inr (posted k closed i j at)) (each i j a b))
    where
      posted : (k : View) → Closed h n slips r k → (i j : ℕ) → (i ≡ s.from) × (j ≡ s.to) × (s.minutes ≤ℤ m'.at i j) → k.at i j ≤ℤ m'.at i j
      posted k closed i j (i-is, j-is, l) =
          let z : k.at i j ≤ℤ s.minutes = rw (i-is, j-is) (closed.posted q s stands) in
          omega (arith, ints)

  -- every sound table below m is below m'
  pub over_sound : (m m' : View) → Over h n slips r m → ((k : View) → Sound k → Tighter k m → Tighter k m') → Over h n slips r m'
  over_sound m m' over keeps k closed = keeps k closed.sound (over k closed)

  -- ---- no closed table

  -- no sound table is below m
  pub none_sound : (m : View) → Over h n slips r m → ((k : View) → Sound k → Tighter k m → ⊥) → NoneClosed h n slips r
  none_sound m over no-sound k closed = no-sound k closed.sound (over k closed)

  closed_low : (k : View) → Closed h n slips r k → (i j : ℕ) → i < n → j < n → neg_ℤ (pos 10080) ≤ℤ k.at i j
  closed_low k closed i j a b = let l = sound_low k closed.sound i j in omega (arith, ints)

  -- an entry is below -10,080
  pub over_deep : (m : View) (i j : ℕ) → i < n → j < n → m.at i j <ℤ neg_ℤ (pos 10080) → Over h n slips r m → NoneClosed h n slips r
  over_deep m i j a b deep over k closed =
      let p = closed.points in
      omega (arith, ints, closed_low k closed i j a b, (over k closed).below i j (omega arith) (omega arith))

  -- ---- what the limits tell of a sound table

  module _ (us : Uses) (lawful : Lawful us r) (held : UsesHeld n us) (m : View) (sound : Sound m) (over : Over h n slips r m) where
    narrows : (k : View) → Closed h n slips r k → (r.refuses m → ⊥) × ((i j : ℕ) (b : ℤ) → r.gives m i j b → AsTight r k i j b)
    narrows k closed = lawful.narrows k m closed.sound sound (uses_in n us k held closed.points) (over k closed) closed.not_refused

    pub over_refused : r.refuses m → NoneClosed h n slips r
    over_refused refused k closed = (narrows k closed).0 refused

    -- no closed table exceeds a bound given
    pub over_given : (i j : ℕ) (b : ℤ) → i < n → j < n → r.gives m i j b → (k : View) → Closed h n slips r k → k.at i j ≤ℤ b
    over_given i j b hi hj given k closed =
        ⊎_elim (λ l. l) (λ w. omega (arith, ints, closed.bounded i j w.0 hi hj w.1, w.2)) ((narrows k closed).1 i j b given)

    pub over_deep_given : (i j : ℕ) (b : ℤ) → i < n → j < n → r.gives m i j b → b <ℤ neg_ℤ (pos 10080) → NoneClosed h n slips r
    over_deep_given i j b hi hj given deep k closed = omega (arith, ints, over_given i j b hi hj given k closed, closed_low k closed i j hi hj)

    -- each entry of m' is at least that of m, or at least a bound given under m
    pub over_bounded : (m' : View) → m'.points ≡ m.points → ((i j : ℕ) → i < n → j < n → AsTight r m i j (m'.at i j)) → Over h n slips r m'
    over_bounded m' points each =
        over_lowered m m' points over
        (λ k closed i j a b. ⊎_elim inl (λ w. inr (let l = over_given i j w.0 a b w.1 k closed in omega (arith, ints, w.2))) (each i j a b))

    -- each entry becomes the least of itself and the bounds given
    pub over_narrowed : (m' : View) → Narrowed (r.gives m) m m' → Over h n slips r m'
    over_narrowed m' narrowed =
        over_lowered m m' narrowed.points over
        (λ k closed i j a b.
        let p = closed.points in
        let q = (over k closed).same in
        ⊎_elim (λ e. inl (omega (arith, ints, e))) (λ g. inr (over_given i j (m'.at i j) a b g k closed)) (narrowed.least i j (omega arith) (omega arith)).reached)

  -- ---- the end

  -- a sound table that is over every closed one, fits the day, is not refused and has no entry above a bound given
  pub rests : (m : View) → m.points ≡ n → Sound m → Fits h n slips m → Over h n slips r m → (r.refuses m → ⊥) → ((i j : ℕ) (b : ℤ) → i < n → j < n → r.gives m i j b → m.at i j ≤ℤ b) → Tightened h n slips r m
  rests m points sound fits over fine bounded = record {
    closed = record { points = points; sound = sound; short = fits.short; opening = fits.opening; posted = fits.posted; not_refused = fine; bounded = bounded };
    greatest = over;
  }

-- where the bounds given lower no entry, no entry is above one
pub still_bounded : (given : ℕ → ℕ → ℤ → Type 0) (m m' : View) → Narrowed given m m' → ((i j : ℕ) → i < m.points → j < m.points → m.at i j ≤ℤ m'.at i j) → (i j : ℕ) (b : ℤ) → i < m.points → j < m.points → given i j b → m.at i j ≤ℤ b
still_bounded given m m' narrowed still i j b hi hj g = omega (arith, ints, still i j hi hj, (narrowed.least i j hi hj).under b g)
