-- The table of a plan leaves each use one option, so a bunker that does not refuse it vouches for it.
use Rattle.std.proofs.Common.{◌≡◌, ℕ, ◌<◌, false, ◌⊎◌, List, pos, ◌+ℤ◌, ◌≤ℤ◌, ap, inl, inr, arith}
use Rattle.std.proofs.lemmas.Int.{ints, by_lt_z}
use Rattle.std.proofs.lemmas.Bool.Decides.{nat_tests}
use Rattle.model.proofs.Entries.{plan_entry}
use Rattle.model.specs.Plans.{Plan, table_of}
use Rattle.model.specs.Uses.{In}
use Rattle.model.specs.declared.moments.Moment.TheVariants.{Point}
use Rattle.model.specs.declared.slips.Use.{Use}
use Rattle.bunker_laws.specs.declared.settings.Settings.{Settings}
use Rattle.bunker_laws.specs.Bunkers.{delivery, Looked, high, low, highest, lowest, Refuses, Vouches}
use Rattle.bunker_laws.proofs.Options.{Has}
use Rattle.bunker_laws.proofs.Sums.{total_same}

one_option : (n : ℕ) (t : Plan) (q : ℕ) (u : Use) → q < n → u.first < n → u.last < n → high (table_of n t) (Point q) u ≡ low (table_of n t) (Point q) u
one_option n t q u qn a b = grind (arith, nat_tests, ints)

module _ (s : Settings) (us : List Use) (n : ℕ) (t : Plan) (has : Has us (table_of n t)) where
  one_level : (q : ℕ) → q < n → highest s us (table_of n t) (Point q) ≡ lowest s us (table_of n t) (Point q)
  one_level q qn = ap (λ z. s.start +ℤ z) (total_same us (high (table_of n t) (Point q)) (low (table_of n t) (Point q)) (λ u i. one_option n t q u qn (has u i).0 (has u i).1))

  module _ (fine : Refuses s us (table_of n t) → ⊥) where
    room_at : (q : ℕ) → q < n → Looked us (Point q) → (s.floor ≤ℤ lowest s us (table_of n t) (Point q)) × (highest s us (table_of n t) (Point q) ≤ℤ s.roof)
    room_at q qn looked =
        let e = one_level q qn in (
          by_lt_z (highest s us (table_of n t) (Point q)) s.floor (λ h. absurd (fine (Refuses.under (Point q) looked h))) (λ h. omega (arith, ints)),
          by_lt_z s.roof (lowest s us (table_of n t) (Point q)) (λ h. absurd (fine (Refuses.over (Point q) looked h))) (λ h. omega (arith, ints)),
        )

    room : (u : Use) (p : ℕ) → In u us → (p ≡ u.first) ⊎ (p ≡ u.last) → (s.floor ≤ℤ lowest s us (table_of n t) (Point p)) × (highest s us (table_of n t) (Point p) ≤ℤ s.roof)
    room u p i (inl e) = room_at p (omega (arith, has u i)) (Looked.first u i (ap Point e))
    room u p i (inr e) = room_at p (omega (arith, has u i)) (Looked.last u i (ap Point e))

    order : (u : Use) → In u us → delivery u ≡ false → (table_of n t).at u.last u.first ≤ℤ pos 0
    order u i loan =
        let l = has u i in
        let there = plan_entry n t u.first u.last l.0 l.1 in
        let back = plan_entry n t u.last u.first l.1 l.0 in
        by_lt_z ((table_of n t).at u.first u.last) (pos 0) (λ h. absurd (fine (Refuses.reversed u i loan h))) (λ h. omega (arith, ints))

    pub plan_vouched : Vouches s us (table_of n t)
    plan_vouched = record { room = room; order = order }
