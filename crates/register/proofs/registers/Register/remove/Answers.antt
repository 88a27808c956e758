use Rattle.std.proofs.Common.{◌<◌, IsTrue, sym, ap, ◌∙◌, subst, arith}
use mathlib.Core.Path.{fun_ext}
use Rattle.register.proofs.Looks.{numbers_removed, lookup_removed}
use Rattle.register.proofs.Rising.{all_removed}
use Rattle.register.proofs.Searches.{at_found}
use Rattle.register.proofs.registers.Register.remove.Goals as goal
use Rattle.register.specs.Lookups.{number_of, numbers, lookup, Rises, Proper}
use Rattle.register.specs.Numbers.{is_number}
use Rattle.register.specs.Standing.{items_of, IsAt}
use Rattle.std.proofs.lemmas.Grind.{common_steps}
use Rattle.std.proofs.lemmas.List.{length-map}
use Rattle.std.proofs.lemmas.List.Quantifiers.{all_pairs_remove}
use Rattle.std.proofs.lemmas.Option.{gets}

pub invariant_of-self : goal.invariant_of-self
invariant_of-self g c =
    let r = c.args.self.now in
    let xs = items_of r in
    let i = c.in_ok-i.i in
    let at = at_found (IsAt r c.args.number) c.seat.result i c.in_ok-i.ensures.value c.seat.ensures.found in
    let e = ap numbers c.remove.ensures.items ∙ numbers_removed xs i in
    let len = c.remove.ensures.len in
    let cap = c.remove.ensures.capacity in
    record {
      rises = subst Rises (sym e) (all_pairs_remove (λ m n. m < n) (numbers xs) i (omega (arith, at.in_range, length-map xs number_of)) r.rises);
      proper = subst Proper (sym e) (all_removed (λ m. IsTrue (is_number m)) (numbers xs) i r.proper);
      few = omega arith;
      room = omega arith;
    }

pub returns-clause-stood : goal.returns-clause-stood
returns-clause-stood g c =
    let at = at_found (IsAt c.args.self.now c.args.number) c.seat.result c.in_ok-i.i c.in_ok-i.ensures.value c.seat.ensures.found in
    grind (arith, common_steps, gets)

pub returns-clause-after : goal.returns-clause-after
returns-clause-after g c =
    let r = c.args.self.now in
    let xs = items_of r in
    let i = c.in_ok-i.i in
    let at = at_found (IsAt r c.args.number) c.seat.result i c.in_ok-i.ensures.value c.seat.ensures.found in
    let len = length-map xs number_of in
    ap lookup c.remove.ensures.items
    ∙ fun_ext (lookup_removed xs c.args.number i at.in_range at.is
    (λ k l e. omega (arith, at.is, r.rises k i 0 l (omega (arith, at.in_range))))
    (λ k l m e. omega (arith, at.is, r.rises i k 0 l (omega arith))))
