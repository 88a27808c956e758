use Rattle.std.proofs.Common.{w32}
use Rattle.std.proofs.lemmas.Int.{to_z-of_z}
use Rattle.std.proofs.lemmas.List.{append_assoc}
use Rattle.texts.proofs.Cuts.{cut_front}
use Rattle.output.proofs.writing.push_point.Goals as goal

pub returns : goal.returns
returns c =
    simp (
      c.push-3.ensures,
      c.push_signed-2.ensures,
      c.push-2.ensures,
      c.push_signed.ensures,
      c.push.ensures,
      c.push_bytes.ensures,
      c.as_bytes.ensures,
      to_z-of_z w32 c.args.earliest c.ranges.earliest,
      to_z-of_z w32 c.args.latest c.ranges.latest,
      cut_front,
      append_assoc,
    )
