use Rattle.std.proofs.Common.{◌≡◌, length, ℤ, negsuc, sym, refl, arith, w16, w32, to_z, of_z, rules}
use Rattle.std.specs.Int.{int_max, int_min}
use Rattle.std.proofs.lemmas.Int.{ints, clamps, by_lt_z}
use Rattle.tables.specs.Views.{bounds_view}
use Rattle.tables.proofs.Entries.{at_low, at_high}
use Rattle.tables.proofs.Lowers.{lowered_same}
use Rattle.tables.proofs.Written.{written_within, written}
use Rattle.tables.proofs.bounds.Bounds.lower.Goals as goal

pub invariant_of-self-clause-within : goal.invariant_of-self-clause-within
unfolding bounds_view
invariant_of-self-clause-within c =
    let b = c.args.self.now in
    let inside = c.exceeds.ensures.0 c.if-exceeds.true in
    let high = at_high b c.args.i c.args.j in
    written_within b.entries c.args.i c.args.j _ b.within (omega (arith, b.few)) (omega (arith, ints, clamps)) (omega (arith, ints, clamps))

pub returns-then-exceeds : goal.returns-then-exceeds
returns-then-exceeds c =
    let b = c.args.self.now in
    let i = c.args.i in
    let j = c.args.j in
    let inside = c.exceeds.ensures.0 c.if-exceeds.true in
    let long : length b.entries ≡ 64 = search rules in
    let v : ℤ = to_z w16 (of_z w16 (to_z w32 (of_z w32 c.max.result))) in
    let low = at_low b i j in
    let high = at_high b i j in
    let least : v ≡ int_min ((bounds_view b).at i j) (int_max c.args.v (negsuc 10080)) = omega (arith, ints, clamps) in
    written b _ i j (int_max c.args.v (negsuc 10080)) v refl refl long inside.0 inside.1 least

pub returns-else-exceeds : goal.returns-else-exceeds
returns-else-exceeds c =
    let b = c.args.self.now in
    let i = c.args.i in
    let j = c.args.j in
    sym
    (lowered_same (bounds_view b) i j (int_max c.args.v (negsuc 10080))
    (λ hi hj.
    by_lt_z (to_z w32 (of_z w32 c.args.v)) ((bounds_view b).at i j)
    (λ less. absurd (let yes = c.exceeds.ensures.1 (hi, hj, less) in cc))
    (λ le. omega (arith, ints, clamps))))
