use Rattle.std.proofs.Common.{◌≤◌, negsuc, ◌-ℤ◌, sym, subst, arith, w32, to_z, of_z}
use Rattle.bunker.proofs.Steps.{lowered_to}
use Rattle.bunker.proofs.requiring.TableInDay.require_after.Goals as goal
use Rattle.bunker.specs.Following.{minute_named}
use Rattle.bunker_laws.specs.Bunkers.{AfterBound}
use Rattle.model.specs.Narrowings.{Narrowed}
use Rattle.std.proofs.lemmas.Int.{ints}
use Rattle.tables.specs.Views.{bounds_view}

pub returns-in-Minute : goal.returns-in-Minute
returns-in-Minute c =
    let before = bounds_view c.args.bounds.now in
    let after = bounds_view c.lower-in-Minute.new.self in
    let day : c.in-Minute.k ≤ 10080 = subst (λ x. minute_named x ≤ 10080) c.in-Minute.is c.args.self.in_day in
    subst (λ x. Narrowed (AfterBound c.args.p x) before after) (sym c.in-Minute.is)
    (lowered_to before after c.args.p 0 (to_z w32 (of_z w32 (negsuc 0 -ℤ to_z w32 c.in-Minute.k))) (negsuc c.in-Minute.k) c.lower-in-Minute.ensures (omega (arith, ints)) (omega (arith, ints)))
