use Rattle.std.proofs.Common.{arith}
use Rattle.std.proofs.lemmas.Int.{ints}
use Rattle.tables.specs.Views.{bounds_view}
use Rattle.tables.proofs.Closing.{settles_or_none}
use Rattle.tables.proofs.tables.close.settle.Goals as goal

pub returns : goal.returns
returns c =
    settles_or_none c.args.k (bounds_view c.args.bounds.now) _ c.relax_through.result c.requires (omega (arith, ints)) c.relax_through.ensures.test c.relax_through.ensures.after
