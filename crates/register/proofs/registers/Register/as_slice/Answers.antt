use Rattle.std.proofs.Common.{map, sym, ap, ◌∙◌}
use Rattle.register.proofs.Gathered.{items, standing_items}
use Rattle.register.proofs.registers.Register.as_slice.Goals as goal
use Rattle.register.specs.Lookups.{what_of}
use Rattle.register.specs.Standing.{items_of}

pub returns : goal.returns
returns g c =
    let r = c.args.self.now in
    let e = c.as_slice.ensures.value in
    record { items = e; gathered = e ∙ sym (items (items_of r) r.rises r.proper); unnumbered = ap (map what_of) e ∙ sym (standing_items r) }
