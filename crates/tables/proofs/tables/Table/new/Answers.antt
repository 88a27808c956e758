use Rattle.std.proofs.Common.{ℕ, ◌<◌, pos, negsuc, ◌≤ℤ◌, sym, subst, arith}
use Rattle.model.specs.Plans.{View}
use Rattle.tables.specs.Ways.{ClosedThrough}
use Rattle.tables.proofs.Starts.{start_low, start_diagonal, start_closed}
use Rattle.tables.proofs.tables.Table.new.Goals as goal

pub invariant_of-result : goal.invariant_of-result
invariant_of-result c =
    let n = c.args.points in
    let h = c.args.horizon in
    let is = sym c.start.ensures in
    let closed = subst (λ (x : View). (k : ℕ) → k < x.points → ClosedThrough k x) is (start_closed n h) in
    record {
      some = subst (λ (x : View). 0 < x.points) is (grind arith);
      low = subst (λ (x : View). (p q : ℕ) → negsuc 10079 ≤ℤ x.at p q) is (start_low n h);
      diagonal = subst (λ (x : View). (p : ℕ) → p < x.points → x.at p p ≤ℤ pos 0) is (start_diagonal n h);
      through = ∣ (λ k i j h. closed k h.1 i j h.2 h.3) ∣₁;
    }
