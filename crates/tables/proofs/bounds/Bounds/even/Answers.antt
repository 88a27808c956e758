use Rattle.std.proofs.Common.{[], ℤ, pos, replicate, ap, ◌∙◌, arith, w16, to_z, of_z}
use Rattle.std.proofs.lemmas.Int.{ints, to_z-of_z}
use Rattle.std.proofs.lemmas.List.{get_or-replicate}
use Rattle.tables.specs.Views.{even_view}
use Rattle.tables.proofs.Written.{even_within, even_view_holds}
use Rattle.tables.proofs.bounds.Bounds.even.Goals as goal

pub invariant_of-result-clause-within : goal.invariant_of-result-clause-within
invariant_of-result-clause-within c = even_within (to_z w16 (of_z w16 c.args.bound)) (omega (arith, ints)) (omega (arith, ints))

pub returns : goal.returns
returns c =
    let v = to_z w16 (of_z w16 c.args.bound) in
    even_view_holds _ v (λ i j hi hj. rw (get_or-replicate 64 i (replicate 64 v) [] hi) (get_or-replicate 64 j v (pos 0) hj))
    ∙ ap (λ (x : ℤ). even_view c.args.points x) (to_z-of_z w16 c.args.bound c.ranges.bound)
