-- What a table is sure of at a moment, beside a plan that meets it, beside a tighter table, and as an entry of its own.
use Rattle.std.proofs.Common.{◌≡◌, ℕ, ◌<◌, ◌≤◌, true, ℤ, ◌≤ℤ◌, inl, inr, ⊎_elim, arith}
use Rattle.std.proofs.lemmas.Int.{ints}
use Rattle.std.proofs.lemmas.Bool.{cases_lt}
use Rattle.model.specs.Plans.{Plan, View, Within, Meets, Sound, Tighter}
use Rattle.model.specs.declared.moments.Moment.{Moment}
use Rattle.model.specs.declared.moments.Moment.TheVariants.{Point, Minute}
use Rattle.bunker_laws.specs.Bunkers.{sure_by, sure_after, ByBound, AfterBound, minute_of}

-- where a table is sure that p comes by q, or after q, it has the point q
by_known : (m : View) (p q : ℕ) → Sound m → sure_by m p (Point q) ≡ true → q < m.points
by_known m p q sound h = ⊎_elim (λ l. l) (λ l. absurd (let e = sound.outside q p (inl l) in grind (arith, ints))) (cases_lt q m.points)

after_known : (m : View) (p q : ℕ) → Sound m → sure_after m p (Point q) ≡ true → q < m.points
after_known m p q sound h = ⊎_elim (λ l. l) (λ l. absurd (let e = sound.outside p q (inr l) in grind (arith, ints))) (cases_lt q m.points)

-- ---- a plan that meets the table

pub by_holds : (m : View) (t : Plan) (p : ℕ) (x : Moment) → Sound m → t 0 ≡ 0 → Meets t m → p < m.points → sure_by m p x ≡ true → t p ≤ minute_of t x
by_holds m t p (Point q) sound opening meets pm h = let l = by_known m p q sound h in let e = meets q p l pm in grind (arith, ints)
by_holds m t p (Minute k) sound opening meets pm h = let e = meets 0 p sound.some pm in grind (arith, ints)

pub after_holds : (m : View) (t : Plan) (p : ℕ) (x : Moment) → Sound m → t 0 ≡ 0 → Meets t m → p < m.points → sure_after m p x ≡ true → minute_of t x < t p
after_holds m t p (Point q) sound opening meets pm h = let l = after_known m p q sound h in let e = meets p q pm l in grind (arith, ints)
after_holds m t p (Minute k) sound opening meets pm h = let e = meets p 0 pm sound.some in grind (arith, ints)

-- ---- a tighter table

pub by_tighter : (m n : View) (p : ℕ) (x : Moment) → Sound m → Sound n → Tighter m n → p < m.points → sure_by n p x ≡ true → sure_by m p x ≡ true
by_tighter m n p (Point q) sm sn tight pm h =
    let l : q < m.points = omega (arith, by_known n p q sn h, tight.same) in
    let e = tight.below q p l pm in
    grind (arith, ints)
by_tighter m n p (Minute k) sm sn tight pm h = let e = tight.below 0 p sm.some pm in grind (arith, ints)

pub after_tighter : (m n : View) (p : ℕ) (x : Moment) → Sound m → Sound n → Tighter m n → p < m.points → sure_after n p x ≡ true → sure_after m p x ≡ true
after_tighter m n p (Point q) sm sn tight pm h =
    let l : q < m.points = omega (arith, after_known n p q sn h, tight.same) in
    let e = tight.below p q pm l in
    grind (arith, ints)
after_tighter m n p (Minute k) sm sn tight pm h = let e = tight.below p 0 pm sm.some in grind (arith, ints)

-- no point comes both by a moment and after it
pub never_both : (m : View) (p : ℕ) (x : Moment) → Sound m → p < m.points → sure_by m p x ≡ true → sure_after m p x ≡ true → ⊥
never_both m p (Point q) sound pm h k =
    let l = by_known m p q sound h in
    grind (arith, ints, sound.triangle q p q l pm l, sound.zero q l)
never_both m p (Minute n) sound pm h k = grind (arith, ints, sound.triangle 0 p 0 sound.some pm sound.some, sound.zero 0 sound.some)

-- ---- the bounds that say it

pub by_within : (t : Plan) (p : ℕ) (x : Moment) (i j : ℕ) (b : ℤ) → t 0 ≡ 0 → ByBound p x i j b → t p ≤ minute_of t x → Within t i j b
by_within t p x i j b opening h l = grind (arith, ints)

pub after_within : (t : Plan) (p : ℕ) (x : Moment) (i j : ℕ) (b : ℤ) → t 0 ≡ 0 → AfterBound p x i j b → minute_of t x < t p → Within t i j b
after_within t p x i j b opening h l = grind (arith, ints)

pub by_entry : (m : View) (p : ℕ) (x : Moment) (i j : ℕ) (b : ℤ) → ByBound p x i j b → sure_by m p x ≡ true → m.at i j ≤ℤ b
by_entry m p x i j b h sure = grind (arith, ints)

pub after_entry : (m : View) (p : ℕ) (x : Moment) (i j : ℕ) (b : ℤ) → AfterBound p x i j b → sure_after m p x ≡ true → m.at i j ≤ℤ b
after_entry m p x i j b h sure = grind (arith, ints)
