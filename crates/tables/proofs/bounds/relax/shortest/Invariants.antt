use Rattle.std.proofs.Common.{◌≡◌, take, pos, fold}
use Rattle.std.specs.Int.{int_min}
use Rattle.tables.proofs.bounds.relax.shortest.Given as goal

abbrev pub invariant-loop-rest : goal.invariant-loop-rest
invariant-loop-rest l = l.least ≡ fold int_min (pos 10080) (take l.rest-index l.over)
