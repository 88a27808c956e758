use Rattle.std.proofs.Common.{◌≡◌, ℕ, ◌<◌, Bool, false, List, length, set, ℤ, pos, negsuc, ◌≤ℤ◌, sym, refl, subst, arith, w32, to_z, of_z, rules}
use Rattle.std.specs.Int.{int_max}
use Rattle.std.proofs.lemmas.Int.{ints, clamps}
use Rattle.model.specs.Plans.{View}
use Rattle.tables.specs.Views.{bounds_view, table_view}
use Rattle.tables.specs.Ways.{Settled}
use Rattle.tables.proofs.Entries.{points_few}
use Rattle.tables.proofs.Lowers.{lowered_by, lowered_tighter, settled_of, settled_lowered}
use Rattle.tables.proofs.tables.Table.lower.Goals as goal

pub unsettle-requires : goal.unsettle-requires
unsettle-requires c =
    let few = points_few c.args.self.now.bounds in
    let inside = c.if-exceeds.ensures.0 refl in
    let long : length c.args.self.now.settled ≡ 64 = search rules in
    record { first = omega (arith, inside.0); second = omega (arith, inside.1) }

pub invariant_of-self : goal.invariant_of-self
invariant_of-self c =
    let t = c.args.self.now in
    let m = table_view t in
    let i = c.args.i in
    let j = c.args.j in
    let v : ℤ = int_max (to_z w32 (of_z w32 c.args.v)) (negsuc 10080) in
    let is = sym c.lower.ensures in
    record {
      some = subst (λ (x : View). 0 < x.points) is t.some;
      low = subst (λ (x : View). (p q : ℕ) → negsuc 10079 ≤ℤ x.at p q) is (λ p q. lowered_by m i j v (λ p q x. negsuc 10079 ≤ℤ x) (λ hi hj. omega (arith, ints, clamps, t.low i j)) p q (t.low p q));
      diagonal = subst (λ (x : View). (p : ℕ) → p < x.points → x.at p p ≤ℤ pos 0) is (λ p h. omega (arith, ints, (lowered_tighter m i j v).below p p h h, t.diagonal p h));
      through = ∣ subst (λ (s : List Bool). Settled s (bounds_view c.lower.new.self)) (sym c.unsettle.ensures) (subst (λ (x : View). Settled (set (set t.settled i false) j false) x) is (settled_lowered t.settled m i j v (settled_of t.settled m t.through))) ∣₁;
    }
