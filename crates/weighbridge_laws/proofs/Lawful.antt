-- A weighbridge keeps the laws of a rule. Each law is shown of one crossing or of two.
use Rattle.std.proofs.Common.{ℕ, ◌<◌, List, [], ◌∷◌, ℤ, pos, negsuc, ◌≤ℤ◌, ◌<ℤ◌, inl, inr, ⊎_elim, arith}
use lib.Signed.{≤ℤ_refl}
use Rattle.std.proofs.lemmas.Int.{ints, by_lt_z}
use Rattle.model.proofs.Gathers.{held_points}
use Rattle.model.specs.Meanings.{Lawful}
use Rattle.model.proofs.Entries.{plan_entry}
use Rattle.model.specs.Plans.{Plan, View, Within, Meets, Tighter, table_of}
use Rattle.model.specs.Uses.{Uses, In, standing}
use Rattle.model.specs.declared.slips.Use.{Use}
use Rattle.weighbridge_laws.specs.Weighbridges.{Before, Two, Allows, Gives, Refuses, Vouches, meaning}

before_in : (a b : Use) (us : List Use) → Before a b us → In a us × In b us
before_in a b [] h = absurd h
before_in a b (u ∷ us) (inl h) = (inl h.0, inr h.1)
before_in a b (u ∷ us) (inr h) = let w = before_in a b us h in (inr w.0, inr w.1)

-- each of two uses is one of the list
two_in : (a b : Use) (us : List Use) → Two a b us → In a us × In b us
two_in a b us (inl h) = before_in a b us h
two_in a b us (inr h) = let w = before_in b a us h in (w.1, w.0)

-- the table holds the points of each use of the list
abbrev Held : List Use → View → Type 0
Held us m = (u : Use) → In u us → (u.first < m.points) × (u.last < m.points)

-- under a plan that meets the table
module _ (us : List Use) (m : View) (t : Plan) (held : Held us m) (meets : Meets t m) where
  to_first : (a b : Use) → In a us → In b us → Within t a.last b.first (m.at a.last b.first)
  to_first a b ha hb = meets a.last b.first (held a ha).1 (held b hb).0

  to_last : (a b : Use) → In a us → In b us → Within t a.first b.last (m.at a.first b.last)
  to_last a b ha hb = meets a.first b.last (held a ha).0 (held b hb).1

  not_refused_holds : Allows us t → Refuses us m → ⊥
  not_refused_holds ok (Refuses.reversed u h low) = omega (arith, ints, ok.order u h, to_last u u h h)
  not_refused_holds ok (Refuses.overlap a b two ab ba) =
      let h = two_in a b us two in
      omega (arith, ints, ok.apart a b two, to_first a b h.0 h.1, to_first b a h.1 h.0)

  bounds_met : Allows us t → (i j : ℕ) (c : ℤ) → Gives us m i j c → Within t i j c
  bounds_met ok i j c (Gives.order u h i-is j-is c-is) = rw (i-is, j-is, c-is) (omega (arith, ints, ok.order u h))
  bounds_met ok i j c (Gives.turn a b two low i-is j-is c-is) =
      let h = two_in a b us two in
      rw (i-is, j-is, c-is) (omega (arith, ints, ok.apart a b two, to_first a b h.0 h.1))

  allowed : Vouches us m → Allows us t
  allowed v = record {
    order = λ u h. omega (arith, ints, v.order u h, to_first u u h h);
    apart = λ a b two.
        let h = two_in a b us two in
        ⊎_elim (λ e. inl (omega (arith, ints, to_last b a h.1 h.0))) (λ e. inr (omega (arith, ints, to_last a b h.0 h.1))) (v.apart a b two);
  }

-- under a tighter table
module _ (us : List Use) (m n : View) (held : Held us m) (tight : Tighter m n) where
  first_below : (a b : Use) → In a us → In b us → m.at a.last b.first ≤ℤ n.at a.last b.first
  first_below a b ha hb = tight.below a.last b.first (held a ha).1 (held b hb).0

  still_refused : Refuses us n → Refuses us m
  still_refused (Refuses.reversed u h low) =
      Refuses.reversed u h (omega (arith, ints, tight.below u.first u.last (held u h).0 (held u h).1))
  still_refused (Refuses.overlap a b two ab ba) =
      let h = two_in a b us two in
      Refuses.overlap a b two (omega (arith, ints, first_below a b h.0 h.1)) (omega (arith, ints, first_below b a h.1 h.0))

  still_given : (i j : ℕ) (c : ℤ) → Gives us n i j c → Gives us m i j c
  still_given i j c (Gives.order u h i-is j-is c-is) = Gives.order u h i-is j-is c-is
  still_given i j c (Gives.turn a b two low i-is j-is c-is) =
      let h = two_in a b us two in
      Gives.turn a b two (omega (arith, ints, first_below a b h.0 h.1)) i-is j-is c-is

-- under the table of a plan
module _ (us : List Use) (n : ℕ) (t : Plan) (held : Held us (table_of n t)) (fine : Refuses us (table_of n t) → ⊥) where
  -- j comes before i, or i no later than j, and the table says which
  forth_or_back : {P : Type 0} (i j : ℕ) → i < n → j < n → ((table_of n t).at i j <ℤ pos 0 → P) → ((table_of n t).at j i ≤ℤ pos 0 → P) → P
  forth_or_back i j hi hj low high =
      let e = plan_entry n t i j hi hj in
      let f = plan_entry n t j i hj hi in
      by_lt_z ((table_of n t).at i j) (pos 0) low (λ h. high (omega (arith, ints)))

  vouched : Vouches us (table_of n t)
  vouched = record {
    order = λ u h. forth_or_back u.first u.last (held u h).0 (held u h).1 (λ low. absurd (fine (Refuses.reversed u h low))) (λ high. high);
    apart = λ a b two.
        let h = two_in a b us two in
        let ha = held a h.0 in
        let hb = held b h.1 in
        forth_or_back a.last b.first ha.1 hb.0
        (λ ab. forth_or_back b.last a.first hb.1 ha.0 (λ ba. absurd (fine (Refuses.overlap a b two ab ba))) inr)
        inl;
  }

depth : (us : List Use) (m : View) (i j : ℕ) (c : ℤ) → Gives us m i j c → negsuc 10080 ≤ℤ c
depth us m i j c (Gives.order u h i-is j-is c-is) = omega (arith, ints)
depth us m i j c (Gives.turn a b two low i-is j-is c-is) = omega (arith, ints)

pub weighbridge_lawful : (us : Uses) → Lawful us (meaning us)
weighbridge_lawful us =
    let xs : List Use = standing (us 0) in
    record {
      keeps = λ m t sound holds plan meets ok.
          let held : Held xs m = λ u. held_points us m 0 u holds in
          (not_refused_holds xs m t held meets ok, bounds_met xs m t held meets ok);
      narrows = λ m n sound sound' holds tight fine.
          let held : Held xs m = λ u. held_points us m 0 u holds in
          (λ r. fine (still_refused xs m n held tight r), λ i j c g. inr (c, still_given xs m n held tight i j c g, ≤ℤ_refl c));
      stands = λ m t sound holds plan meets v. allowed xs m t (λ u. held_points us m 0 u holds) meets v;
      decides = λ n t some holds plan fine. vouched xs n t (λ u. held_points us (table_of n t) 0 u holds) fine;
      spans = λ m t sound holds plan meets place x. tt;
      depth = depth xs;
    }
