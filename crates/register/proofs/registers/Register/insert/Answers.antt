use Rattle.std.proofs.Common.{IsTrue, sym, ap, ◌∙◌, subst, rules, arith}
use mathlib.Core.Path.{fun_ext}
use Rattle.register.proofs.Looks.{numbers_inserted, lookup_inserted}
use Rattle.register.proofs.Rising.{rises_inserted, all_inserted}
use Rattle.register.proofs.registers.Register.insert.Goals as goal
use Rattle.register.specs.Lookups.{number_of, numbers, lookup, Rises, Proper}
use Rattle.register.specs.Numbers.{is_number}
use Rattle.register.specs.Standing.{items_of}
use Rattle.std.proofs.lemmas.List.{length-map}

pub invariant_of-self : goal.invariant_of-self
invariant_of-self g c =
    let r = c.args.self.now in
    let xs = items_of r in
    let i = c.in-Err.i in
    let n = c.args.number in
    let free = c.in-Err.ensures.absent in
    let ok = c.insert.ensures.succeeds (omega arith) in
    let e = ap numbers (rw ok at c.insert.ensures.items) ∙ numbers_inserted xs i (record { number = n; what = c.args.what }) in
    let len = rw ok at c.insert.ensures.len in
    let cap = c.insert.ensures.capacity in
    record {
      rises = subst Rises (sym e) (rises_inserted (numbers xs) n i (omega (arith, free.in_range, length-map xs number_of)) r.rises free.gap);
      proper = subst Proper (sym e) (all_inserted (λ m. IsTrue (is_number m)) (numbers xs) i r.proper n (search rules));
      few = omega arith;
      room = omega arith;
    }

pub returns : goal.returns
returns g c =
    let xs = items_of c.args.self.now in
    let free = c.in-Err.ensures.absent in
    let e = rw (c.insert.ensures.succeeds (omega arith)) at c.insert.ensures.items in
    record {
      proper = search rules;
      free = free.none;
      room = omega arith;
      after = ap lookup e ∙ fun_ext (lookup_inserted xs c.in-Err.i (record { number = c.args.number; what = c.args.what }) (λ k l same. omega (arith, free.gap.before k l)));
    }
