-- That a table given by its rows is the tightened one, or that no table is closed: by a computed test, by the bounds that the limits
-- give to every closed table, and by the plans that the limits allow.
use Rattle.std.proofs.Common.{◌≡◌, ℕ, ◌<◌, ◌≤◌, Bool, true, false, cond, ◌&&◌, eqb, ltb, List, [], ◌++◌, length, ℤ, pos, ◌≤ℤ◌, ◌<ℤ◌, Some, None, refl, ⊎_elim, arith}
use Rattle.std.proofs.lemmas.Int.{ints}
use Rattle.std.proofs.lemmas.Bool.{and_parts, ltb-true}
use Rattle.std.specs.List.{AllByRecursion as All}
use Rattle.model.proofs.Members.{in_either}
use Rattle.model.specs.Closed.{Closed, NoneClosed, Tightened}
use Rattle.model.specs.Meanings.{Meaning, Lawful}
use Rattle.model.specs.Plans.{Plan, PlanOf, View, Meets}
use Rattle.model.specs.Uses.{single, Holds}
use Rattle.model.specs.declared.slips.Distance.{Distance}
use Rattle.model.specs.declared.slips.Use.{Use}
use Rattle.promise_laws.proofs.Steps.{rests}
use Rattle.worked_days.proofs.Numbered.{stands_in, in_stands}
use Rattle.worked_days.proofs.Reached.{not_refused_holds, not_bounded}
use Rattle.worked_days.proofs.Rows.{fits, short, opening, sound, keeps, no_lower}
use Rattle.worked_days.proofs.Shortest.{shortest, Keeps, under_shortest}
use Rattle.worked_days.proofs.Tests.{all_in, all_in_holds, each}
use Rattle.worked_days.specs.Forms.{table, numbered_from}

-- a day of h minutes and n points, with these slips, and further bounds that each closed table keeps
module _ (h n : ℕ) (ss further : List Distance) (r : Meaning) where
  abbrev pub Owed : Type 0
  Owed = (k : View) → Closed h n (numbered_from 1 ss) r k → Keeps k further

  pub each_owed : All (λ x. (k : View) → Closed h n (numbered_from 1 ss) r k → k.at x.from x.to ≤ℤ x.minutes) further → Owed
  each_owed all k closed s i = all_in_holds (λ x. (k : View) → Closed h n (numbered_from 1 ss) r k → k.at x.from x.to ≤ℤ x.minutes) further all s i k closed

  module _ (owed : Owed) (k : View) (closed : Closed h n (numbered_from 1 ss) r k) where
    keeps_all : Keeps k (ss ++ further)
    keeps_all s i = ⊎_elim (λ a. let w = in_stands 1 ss s a in closed.posted w.0 s w.2) (owed k closed s) (in_either s ss further i)

    -- no closed table exceeds the shortest ways
    pub ways : (i j : ℕ) → i < n → j < n → k.at i j ≤ℤ shortest h n (ss ++ further) i j
    ways = under_shortest h n (numbered_from 1 ss) r k closed (ss ++ further) keeps_all

  -- a point that has to come before itself
  pub none_closed_holds : Owed → (i : ℕ) → i < n → shortest h n (ss ++ further) i i <ℤ pos 0 → NoneClosed h n (numbered_from 1 ss) r
  none_closed_holds owed i hi low k closed = let same = closed.points in omega (arith, ints, ways owed k closed i i hi hi, closed.sound.zero i (omega arith))

-- what the slips alone owe
pub slip_ways : (h n : ℕ) (ss : List Distance) (r : Meaning) (k : View) → Closed h n (numbered_from 1 ss) r k → (i j : ℕ) → i < n → j < n → k.at i j ≤ℤ shortest h n (ss ++ []) i j
slip_ways h n ss r = ways h n ss [] r (each_owed h n ss [] r tt)

-- uses that name points below n
abbrev pub named : ℕ → List Use → Bool
named n us = all_in (λ u. ltb u.first n && ltb u.last n) us

named_held : (n : ℕ) (us : List Use) → named n us ≡ true → (number : ℕ) (u : Use) → numbered_from 1 us number ≡ Some u → (u.first < n) × (u.last < n)
named_held n us e number u stands =
    let both = and_parts (ltb u.first n) (ltb u.last n) (each (λ u. ltb u.first n && ltb u.last n) us e u (stands_in 1 us number u stands)) in
    (ltb-true u.first n both.0, ltb-true u.last n both.1)

pub named_holds : (m : View) (us : List Use) → named m.points us ≡ true → Holds (single (numbered_from 1 us)) m
named_holds m us e place number u stands = by (eqb place 0) stands
  where
    by : (first : Bool) → cond first (numbered_from 1 us) (λ k. None) number ≡ Some u → (u.first < m.points) × (u.last < m.points)
    by true h = named_held m.points us e number u h
    by false h = absurd (let z : ◌≡◌ {A = ℕ} 0 1 = cc in omega arith)

-- the rows pass the test, and every plan that meets the table is allowed
pub tightens : (h : ℕ) (ss further : List Distance) (rows : List (List ℤ)) (us : List Use) (r : Meaning) → h ≤ 10080 → fits h ss further rows ≡ true → named (length rows) us ≡ true → Lawful (single (numbered_from 1 us)) r → Owed h (length rows) ss further r → ((t : Plan) → PlanOf (length rows) 10080 t → Meets t (table rows) → r.allows t) → Tightened h (length rows) (numbered_from 1 ss) r (table rows)
tightens h ss further rows us r hours passed names lawful owed allowed =
    let good = sound h ss further rows hours passed in
    let early = opening h ss further rows hours passed in
    let holds = named_holds (table rows) us names in
    rests h (length rows) (numbered_from 1 ss) r (table rows) refl good
    (record { short = short h ss further rows hours passed; opening = early; posted = λ k s e. keeps h ss further rows hours passed s (stands_in 1 ss k s e) })
    (λ k closed. record {
      same = closed.points;
      below = λ i j a b.
          let same = closed.points in
          let hi : i < length rows = omega arith in
          let hj : j < length rows = omega arith in
          omega (arith, ints, ways h (length rows) ss further r owed k closed i j hi hj, no_lower h ss further rows hours passed i j hi hj);
    })
    (not_refused_holds (table rows) good early (single (numbered_from 1 us)) r lawful holds allowed)
    (not_bounded (table rows) good early (single (numbered_from 1 us)) r lawful holds allowed)
