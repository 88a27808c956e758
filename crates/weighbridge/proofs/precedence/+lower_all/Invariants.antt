use Rattle.std.proofs.Common.{length}
use Rattle.weighbridge.proofs.precedence.+lower_all.Given as goal

abbrev pub decreases-lower_all : goal.decreases-lower_all
decreases-lower_all l = length l.uses.now
