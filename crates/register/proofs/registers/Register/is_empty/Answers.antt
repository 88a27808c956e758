use Rattle.std.proofs.Common.{◌≡◌, eqb, length, vec_len, MatchBool, sym, ap, ◌∙◌, subst, arith}
use Rattle.register.proofs.Looks.{lookup_empty}
use Rattle.register.proofs.registers.Register.is_empty.Goals as goal
use Rattle.register.specs.Lookups.{nothing}
use Rattle.register.specs.Standing.{items_of, stands}

pub returns : goal.returns
returns g c =
    let r = c.args.self.now in
    let n : vec_len r.items ≡ length (items_of r) = omega arith in
    let e = c.is_empty.ensures ∙ ap (λ k. eqb k 0) n in
    record {
      count = e;
      empty = subst (λ t. MatchBool t (stands r ≡ nothing) (stands r ≡ nothing → ⊥)) (sym e) (lookup_empty (items_of r));
    }
