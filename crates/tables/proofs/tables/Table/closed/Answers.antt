use Rattle.std.proofs.Common.{◌≡◌, ℕ, ◌+◌, ◌<◌, false, sym, subst, arith}
use Rattle.std.proofs.lemmas.List.{get_or-take}
use Rattle.tables.specs.Views.{bounds_view}
use Rattle.tables.specs.declared.bounds.Bounds.{Bounds}
use Rattle.tables.proofs.Closing.{settled_at_ok, none_at_err, Closing, closing_over, closing_more, all_low, all_diagonal, greatest}
use Rattle.tables.proofs.tables.Table.closed.Goals as goal
use Rattle.tables.proofs.tables.Table.closed.Goals.{then-not-settled+in_ok-ok, else-not-settled}

pub returns-in_err-ok : goal.returns-in_err-ok
returns-in_err-ok c =
    let none = none_at_err c.loop-k.k (bounds_view c.loop-k.bounds) (bounds_view c.settle.new.bounds) c.settle.result c.in_err-ok.ensures.variant c.settle.ensures in
    rw c.from_residual.ensures (λ n s u. none n s (c.loop-k.invariant.relaxed.keeps n s u))

pub loop-k-preserved : goal.loop-k-preserved
loop-k-preserved c =
    let t = c.args.self.now in
    let k = c.loop-k.k in
    let so = c.loop-k.invariant in
    let inside : k < (bounds_view c.loop-k.bounds).points = omega (arith, so.relaxed.tighter.same, c.points.ensures) in
    elim c.if-not-settled.branch [
      | then-not-settled+in_ok-ok w ↦
          subst (λ (b : Bounds). Closing t (k + 1) (bounds_view b)) (sym w.bounds-is)
          (closing_more t k _ _ so inside (settled_at_ok _ _ _ w.settle.result w.in_ok-ok.ensures.variant w.settle.ensures))
      | else-not-settled w ↦
          subst (λ (b : Bounds). Closing t (k + 1) (bounds_view b)) (sym w.bounds-is)
          (closing_over t k _ so inside (rw (← get_or-take c.points.result t.settled k false (omega (arith, so.relaxed.tighter.same, c.points.ensures))) w.if-not-settled.false))
    ]

pub invariant_of-result : goal.invariant_of-result
invariant_of-result c =
    let t = c.args.self.now in
    let b = c.loop-k.bounds in
    let done : c.loop-k.k ≡ (bounds_view b).points = omega (arith, c.loop-k.invariant.relaxed.tighter.same, c.points.ensures) in
    let so = subst (λ (q : ℕ). Closing t q (bounds_view b)) done c.loop-k.invariant in
    record {
      some = omega (arith, t.some, so.relaxed.tighter.same);
      low = all_low t b so;
      diagonal = all_diagonal t b so;
      through = ∣ (λ k i j h. so.below k h.1 i j h.2 h.3) ∣₁;
    }

pub returns : goal.returns
returns c =
    let t = c.args.self.now in
    let b = c.loop-k.bounds in
    let done : c.loop-k.k ≡ (bounds_view b).points = omega (arith, c.loop-k.invariant.relaxed.tighter.same, c.points.ensures) in
    greatest t b (subst (λ (q : ℕ). Closing t q (bounds_view b)) done c.loop-k.invariant)
