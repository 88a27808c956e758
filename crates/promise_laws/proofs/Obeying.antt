-- What a tightened table says of the plans that obey.
use Rattle.std.proofs.Common.{◌≡◌, ℕ, ◌<◌, ◌≤◌, pos, ◌+ℤ◌, ◌-ℤ◌, nat_abs, ◌≤ℤ◌, Some, sym, refl, ◌∙◌, subst, arith}
use Rattle.std.proofs.lemmas.Int.{ints}
use Rattle.model.proofs.Entries.{plan_entry}
use Rattle.model.specs.Closed.{Slips, SlipsHeld, Closed, NoneClosed, Tightened, Obeys, Loose}
use Rattle.model.specs.Meanings.{Meaning, Lawful}
use Rattle.model.specs.Plans.{Plan, PlanOf, View, Within, Meets, Sound, table_of}
use Rattle.model.specs.Uses.{Uses}
use Rattle.model.specs.declared.slips.Distance.{Distance}
use Rattle.promise_laws.specs.Held.{UsesHeld}
use Rattle.promise_laws.proofs.Views.{plan_sound, plan_met, uses_in, views_same}

-- a plan for a shorter day is one for the longest
longest : (h n : ℕ) (t : Plan) → h ≤ 10080 → PlanOf n h t → PlanOf n 10080 t
longest h n t hours plan = record { opening = plan.opening; within = λ p a. omega (arith, plan.within p a) }

module _ (h n : ℕ) (slips : Slips) (r : Meaning) (us : Uses) (lawful : Lawful us r) (held : UsesHeld n us) where
  -- ---- a tightened table without a loose point

  module _ (m : View) (tight : Tightened h n slips r m) (fast : (p : ℕ) → p < n → Loose m p → ⊥) where
    -- the plan of the first row
    abbrev first : Plan
    first p = nat_abs (m.at 0 p)

    sound : Sound m
    sound = tight.closed.sound

    inside : (p : ℕ) → p < n → p < m.points
    inside p a = omega (arith, tight.closed.points)

    some : 0 < n
    some = omega (arith, tight.closed.points, sound.some)

    triangle : (i j k : ℕ) → i < n → j < n → k < n → m.at i k ≤ℤ (m.at i j +ℤ m.at j k)
    triangle i j k a b c = sound.triangle i j k (inside i a) (inside j b) (inside k c)

    tied : (p : ℕ) → p < n → (m.at 0 p +ℤ m.at p 0) ≤ℤ pos 0
    tied p a = grind (arith, ints, fast p a)

    -- 0 ≤ m(0, p) + m(p, 0) ≤ m(0, p)
    row : (p : ℕ) → p < n → pos (first p) ≡ m.at 0 p
    row p a = omega (arith, ints, tight.closed.opening p a, sound.zero 0 (inside 0 some), triangle 0 p 0 some a some)

    entry : (i j : ℕ) → i < n → j < n → m.at i j ≡ pos (first j) -ℤ pos (first i)
    entry i j a b = omega (arith, ints, row i a, row j b, tied i a, triangle i 0 j a some b, triangle 0 i j some a b)

    first_plan : PlanOf n 10080 first
    first_plan = record { opening = omega (arith, ints, row 0 some, sound.zero 0 (inside 0 some)); within = λ p a. omega (arith, ints, row p a, sound.within 0 p) }

    whole : m ≡ table_of n first
    whole =
        views_same m (table_of n first) sound (plan_sound n first some first_plan) tight.closed.points
        (λ i j a b. let c : i < n = omega (arith, tight.closed.points) in let d : j < n = omega (arith, tight.closed.points) in entry i j c d ∙ sym (plan_entry n first i j c d))

    -- it is the table of the plan of its first row, so it is vouched for
    pub fixed : r.vouches m
    fixed =
        subst r.vouches (sym whole)
        (lawful.decides n first some (uses_in n us (table_of n first) held refl) first_plan (subst (λ k. r.refuses k → ⊥) whole tight.closed.not_refused))

  -- ---- plans that obey, on a day of at most 10,080 minutes whose slips name its points

  module _ (hours : h ≤ 10080) (slips-held : SlipsHeld n slips) where
    -- the table of an obeying plan is closed
    pub own_closed : 0 < n → (t : Plan) → Obeys h n slips r t → Closed h n slips r (table_of n t)
    own_closed some t obeys =
        let plan = longest h n t hours obeys.plan in
        let sound = plan_sound n t some plan in
        let kept = lawful.keeps (table_of n t) t sound (uses_in n us (table_of n t) held refl) plan (plan_met n t) obeys.allowed in
        record {
          points = refl;
          sound = sound;
          short = λ i j a b. omega (arith, ints, plan_entry n t i j a b, obeys.plan.within j b);
          opening = λ i a. omega (arith, ints, plan_entry n t i 0 a some, obeys.plan.opening);
          posted = λ k s e. omega (arith, ints, plan_entry n t s.from s.to (slips-held k s e).0 (slips-held k s e).1, obeys.posted k s e);
          not_refused = kept.0;
          bounded = λ i j b a c g. omega (arith, ints, plan_entry n t i j a c, kept.1 i j b g);
        }

    -- where no table is closed, no plan obeys
    pub none : 0 < n → NoneClosed h n slips r → (t : Plan) → Obeys h n slips r t → ⊥
    none some closed t obeys = closed (table_of n t) (own_closed some t obeys)

    module _ (m : View) (tight : Tightened h n slips r m) where
      meeting_obeys : (t : Plan) → PlanOf n h t → Meets t m → r.allows t → Obeys h n slips r t
      meeting_obeys t plan meets allowed = record { plan = plan; posted = posted; allowed = allowed }
        where
          posted : (k : ℕ) (s : Distance) → slips k ≡ Some s → Within t s.from s.to s.minutes
          posted k s e =
              let l = slips-held k s e in
              let p = tight.closed.points in
              omega (arith, ints, meets s.from s.to (omega arith) (omega arith), tight.closed.posted k s e)

      obeying_meets : (t : Plan) → Obeys h n slips r t → Meets t m
      obeying_meets t obeys i j a b =
          let p = tight.closed.points in
          let some : 0 < n = omega (arith, tight.closed.sound.some) in
          let c : i < n = omega arith in
          let d : j < n = omega arith in
          omega (arith, ints, plan_entry n t i j c d, (tight.greatest (table_of n t) (own_closed some t obeys)).below i j c d)

      -- the plans that meet the table and are allowed are those that obey
      pub exact : (t : Plan) → PlanOf n h t → (Meets t m × r.allows t → Obeys h n slips r t) × (Obeys h n slips r t → Meets t m × r.allows t)
      exact t plan = (λ both. meeting_obeys t plan both.0 both.1, λ obeys. (obeying_meets t obeys, obeys.allowed))

      -- where the table is vouched for, each plan that meets it obeys
      pub any : r.vouches m → (t : Plan) → PlanOf n h t → Meets t m → Obeys h n slips r t
      any vouched t plan meets =
          let points = tight.closed.points in
          meeting_obeys t plan meets
          (lawful.stands m t tight.closed.sound (uses_in n us m held points) (subst (λ k. PlanOf k 10080 t) (sym points) (longest h n t hours plan)) meets vouched)
