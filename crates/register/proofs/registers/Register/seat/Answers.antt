use Rattle.std.proofs.Common.{rules}
use Rattle.std.proofs.lemmas.List.Sorted.{answers_always}
use Rattle.register.proofs.Searches.{searched}
use Rattle.register.proofs.registers.Register.seat.Goals as goal
use Rattle.register.specs.Lookups.{number_of}

pub returns : goal.returns
returns g c =
    let found = c.binary_search_by_key.ensures in
    let by_key = found.position number_of (answers_always _ _ _ (λ f a r g called. search rules)) in
    searched c.args.self.now c.args.number c.binary_search_by_key.result (rw c.deref.ensures.value at found.bound) (rw c.deref.ensures.value at by_key)
